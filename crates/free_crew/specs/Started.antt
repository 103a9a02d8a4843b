-- What a thread is started for.
use Rattle.std.specs.Prelude.{◌≡◌, ℕ}
use Rattle.cell_gate.specs.GateData.{GateData}
use Rattle.free_crew.specs.declared.job.Job.{Job}
use Rattle.free_crew.specs.declared.threads.TaskBack.{TaskBack}

-- A thread promises to give back this task, by its number, having gone on at this gate.
pub record IsPromised {M : Type 0} (gate : GateData) (task : ℕ) (job : Job M) (back : TaskBack M) : Type 0 where
  pub gate_is : back.gate.value ≡ gate
  pub task_is : back.task ≡ task
  pub job_is : back.job.value ≡ job
