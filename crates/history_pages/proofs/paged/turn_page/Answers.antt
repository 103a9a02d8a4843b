use Rattle.std.proofs.Common.{◌≤◌, [], ◌∷◌, ◌++◌, sym, ap, ◌∙◌, arith}
use Rattle.std.specs.Vec.{vec_len}
use Rattle.history_pages.proofs.Paging.{IsTurned, none_to_come, turns}
use Rattle.history_pages.proofs.paged.turn_page.Goals as goal
use Rattle.history_pages.proofs.paged.turn_page.Given as given

turned : (g : given.Over) (c : goal.After-push_reserved g) → IsTurned c.args.page c.args.full.now c.push_reserved.new.self c.args.last.now c.replace.new.dest c.args.spare.now c.pop.new.self
turned g c =
    let done : c.args.page ≤ vec_len c.args.last.now = omega arith in
    turns c.args.page c.args.full.now c.push_reserved.new.self c.args.last.now c.replace.new.dest c.args.spare.now c.pop.new.self c.requires.pages done
    (c.in-Some.ensures.items ∙ ap (λ v. c.pop.new.self.items ++ v ∷ []) (sym c.replace.ensures.after)) c.in-Some.ensures.len
    (c.push_reserved.ensures.items ∙ ap (λ v. c.args.full.now.items ++ v ∷ []) c.replace.ensures.value) c.push_reserved.ensures.len c.push_reserved.ensures.capacity

pub returns-in-Some-clause-pages : goal.returns-in-Some-clause-pages
returns-in-Some-clause-pages g c = (turned g c).pages

pub returns-in-Some-clause-same : goal.returns-in-Some-clause-same
returns-in-Some-clause-same g c = (turned g c).same

pub returns-in-Some-clause-room : goal.returns-in-Some-clause-room
returns-in-Some-clause-room g c = (turned g c).room

pub returns-in-None-clause-room : goal.returns-in-None-clause-room
returns-in-None-clause-room g c = none_to_come c.args.page c.args.full.now c.args.last.now c.args.spare.now c.requires.pages c.in-None.ensures.cases.0 c.requires.room
