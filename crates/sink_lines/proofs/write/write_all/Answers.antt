use Rattle.std.proofs.Common.{ℕ, ◌≡◌, ◌≢◌, ◌<◌, ◌≤◌, ◌+◌, ◌-◌, List, [], ◌∷◌, ◌++◌, take, drop, length, arith, sym, ap, ◌∙◌, subst, length-drop, append-nil}
use Rattle.std.specs.Prelude.{Option}
use Rattle.std.proofs.Math.Seq.{take-add}
use Rattle.std.proofs.lemmas.List.{take-append-drop, take_all, take_rest}
use Rattle.std.proofs.lemmas.Result.{err_from_is_err_and}
use Rattle.outside.specs.declared.call.Call.{Call}
use Rattle.outside.proofs.Counting.{Rose-since}
use Rattle.sink_lines.specs.Sends.{Leaves, SendsLines, SendsSome}
use Rattle.sink_lines.specs.Printed.{Gained, GainedCalls}
use Rattle.sink_lines.proofs.Sending.{leaves_more, sends_one, sends_part}
use Rattle.sink_lines.proofs.Gains.{gained_more}
use Rattle.sink_lines.proofs.write.write_all.Goals as goal

-- if an index is within a list, something follows it
rest_some : (xs : List ℕ) (i : ℕ) → i < length xs → drop i xs ≢ []
rest_some xs i lt e = absurd (omega (arith, ap length e, length-drop i xs))

length-rest : (xs : List ℕ) (i : ℕ) → length (take (length xs - i) (drop i xs)) ≡ length xs - i
length-rest xs i = ap length (take_rest xs i) ∙ length-drop i xs

-- one more part of the piece
one_more : (xs : List ℕ) (i n : ℕ) (a b c : Option (List ℕ)) → Gained (take i xs) a b → Gained (take n (take (length xs - i) (drop i xs))) b c → Gained (take (i + n) xs) a c
one_more xs i n a b c f s =
    rw (take-add i n xs) (gained_more (take i xs) (take n (drop i xs)) a b c f (subst (λ (ys : List ℕ). Gained (take n ys) b c) (take_rest xs i) s))

-- all of the piece
all_of : (xs : List ℕ) (i : ℕ) (a b : Option (List ℕ)) → length xs ≤ i → Gained (take i xs) a b → Gained (xs ++ []) a b
all_of xs i a b all f = subst (λ (ys : List ℕ). Gained ys a b) (take_all i xs all ∙ sym (append-nil xs)) f

-- nothing more
none_more : {A : Type 0} (xs : List A) (a b c : Option (List A)) → Gained xs a b → Gained [] b c → Gained xs a c
none_more {A} xs a b c f s = subst (λ (ys : List A). Gained ys a c) (append-nil xs) (gained_more xs [] a b c f s)

-- a call that was handed this many bytes, and took some of them
abbrev call : ℕ → ℕ → Call
call handed taken = record { handed = handed; taken = taken }

-- the calls so far have left what follows the index
abbrev HasLeft : List ℕ → ℕ → List Call → Type 0
HasLeft xs i calls = Leaves (length xs) calls (length xs - i)

-- one more call
call_more : (xs : List ℕ) (i n : ℕ) (a b c : Option (List Call)) → 0 < n → n ≤ length xs - i → GainedCalls (HasLeft xs i) a b
    → Gained (call (length (take (length xs - i) (drop i xs))) n ∷ []) b c → GainedCalls (HasLeft xs (i + n)) a c
call_more xs i n a b c some fits f s = record {
  calls = f.calls ++ call (length xs - i) n ∷ [];
  holds =
      let left : length xs - i - n ≡ length xs - (i + n) = omega arith in
      subst (λ (m : ℕ). Leaves (length xs) (f.calls ++ call (length xs - i) n ∷ []) m) left (leaves_more (length xs) f.calls (length xs - i) n f.holds some fits);
  gained = gained_more f.calls (call (length xs - i) n ∷ []) a b c f.gained (subst (λ (handed : ℕ). Gained (call handed n ∷ []) b c) (length-rest xs i) s);
}

-- the calls for all of the piece
calls_whole : (xs : List ℕ) (i : ℕ) (a b : Option (List Call)) → length xs ≤ i → GainedCalls (HasLeft xs i) a b → GainedCalls (SendsLines (xs ∷ [])) a b
calls_whole xs i a b all f = record {
  calls = f.calls;
  holds =
      let none : length xs - i ≡ 0 = omega arith in
      sends_one xs f.calls (subst (λ (m : ℕ). Leaves (length xs) f.calls m) none f.holds);
  gained = f.gained;
}

-- the calls for part of the piece
calls_part : (xs : List ℕ) (i : ℕ) (a b c : Option (List Call)) → i < length xs → GainedCalls (HasLeft xs i) a b → Gained [] b c → GainedCalls (SendsSome (xs ∷ [])) a c
calls_part xs i a b c lt f s = record {
  calls = f.calls;
  holds = sends_part xs f.calls (length xs - i) (omega arith) f.holds;
  gained = none_more f.calls a b c f.gained s;
}

pub loop-at-preserved : goal.loop-at-preserved
loop-at-preserved g c =
    let fits : c.in_ok-at.field-0 ≤ length c.args.piece.now - c.loop-at.at = let h = c.in_ok-at.ensures.takes_at_most_all in omega (arith, h, length-rest c.args.piece.now c.loop-at.at) in
    record {
      within = let lt = c.loop-at-test.true in omega (arith, fits, lt);
      bytes = one_more c.args.piece.now c.loop-at.at c.in_ok-at.field-0 _ _ _ c.loop-at.invariant.bytes c.in_ok-at.ensures.told_after;
      calls = call_more c.args.piece.now c.loop-at.at c.in_ok-at.field-0 _ _ _ c.in_ok-at.ensures.takes_some fits c.loop-at.invariant.calls c.in_ok-at.ensures.called;
      faults = let h = c.in_ok-at.ensures.faults_never_fall in omega (arith, h);
    }

pub returns-in_err-at : goal.returns-in_err-at
returns-in_err-at g c =
    let p = err_from_is_err_and c.from_residual.result c.from_residual.ensures.1 in
    rw (p.1) (record {
      bytes = record {
        front = take c.loop-at.at c.args.piece.now;
        proper = record {
          rest = drop c.loop-at.at c.args.piece.now;
          lacks = rest_some c.args.piece.now c.loop-at.at c.loop-at-test.true;
          whole = append-nil c.args.piece.now ∙ sym (take-append-drop c.loop-at.at c.args.piece.now);
        };
        gained = none_more (take c.loop-at.at c.args.piece.now) _ _ _ c.loop-at.invariant.bytes c.in_err-at.ensures.told_after;
      };
      calls = calls_part c.args.piece.now c.loop-at.at _ _ _ c.loop-at-test.true c.loop-at.invariant.calls c.in_err-at.ensures.called;
      rose = Rose-since _ _ _ c.loop-at.invariant.faults c.in_err-at.ensures.faults_never_fall c.in_err-at.ensures.failed_only_where_faults_rose;
      faults = let h = c.in_err-at.ensures.faults_never_fall in omega (arith, h);
    })

pub returns : goal.returns
returns g c = record {
  bytes = all_of c.args.piece.now c.loop-at.at _ _ c.loop-at-test.false c.loop-at.invariant.bytes;
  calls = calls_whole c.args.piece.now c.loop-at.at _ _ c.loop-at-test.false c.loop-at.invariant.calls;
  faults = c.loop-at.invariant.faults;
}
