-- The error if no token starts, and the token if one does.
use Rattle.std.proofs.Common.{◌≡◌, ◌≢◌, ℕ, ◌+◌, ◌≤◌, Bool, true, false, ◌||◌, cond, eqb, List, [], ◌∷◌, ◌++◌, length, take, drop, Option, Some, None, Result, Ok, Err, refl, sym, ap, subst, ◌∙◌, append_assoc, arith, inl, inr}
use Rattle.std.specs.List.{concat}
use Rattle.std.proofs.lemmas.Bool.{eqb-true, eqb-false, ne_eqb, or_cases, or_parts}
use Rattle.std.proofs.lemmas.List.{take-append-drop, take_at, drop_at}
use Rattle.rapid_lexer.specs.declared.kind.Kind.{Kind}
use Rattle.rapid_lexer.specs.declared.kind.Kind.TheVariants.{Name, Number, Quoted}
use Rattle.rapid_lexer.specs.declared.fault.LexRule.{LexRule}
use Rattle.rapid_lexer.specs.declared.fault.LexRule.TheVariants.{BadByte, OpenString, BadEscape, LongString, LongName, BadLiteral, OpenHeader}
use Rattle.rapid_lexer.specs.declared.fault.LexFault.{LexFault}
use Rattle.rapid_lexer.specs.declared.state.State.TheVariants.{Start}
use Rattle.rapid_num.specs.Characters.{is_printable}
use Rattle.rapid_lexer.specs.Bytes.{is_blank}
use Rattle.rapid_lexer.specs.Strings.{AreCharacters}
use Rattle.rapid_lexer.specs.Tokens.{Lexeme, IsToken, IsLongest}
use Rattle.rapid_lexer.specs.Faults.{NoToken, IsBroken, IsAtEnd, IsBadEscape, IsBadInString, IsBadAtFront, StopsString, IsMisfit}
use Rattle.rapid_lexer.specs.Scanning.{longest}
use Rattle.rapid_lexer.specs.Reading.{character_len, characters_len, fault, lexeme, stopped, broken_behind, broken, misfit, token_found, token_at, token_of}
use Rattle.rapid_lexer.proofs.Longest.{scanned, longest_some, longest_none, longest_is, none_longest}
use Rattle.rapid_lexer.proofs.Walks.{walk_some, walk_none, walk_of, walk_over, none_begins, begins_none}
use Rattle.rapid_lexer.proofs.Limits.{IsAt, token_of_right, token_of_is, long_name_is, bad_literal_is, long_string_is}

-- ---- a string that stops

-- a single quote after characters closes a string
closes : (cs : List (List ℕ)) (left : List ℕ) → AreCharacters cs → NoToken (34 ∷ (concat cs ++ 34 ∷ left)) → ⊥
closes cs left are none =
    none Quoted (34 ∷ (concat cs ++ 34 ∷ [])) left (ap (λ (r : List ℕ). 34 ∷ r) (sym (append_assoc (concat cs) (34 ∷ []) left))) (cs, record { characters = are; whole = refl })

record IsStop (here : ℕ) (bytes : List ℕ) (cs : List (List ℕ)) (left : List ℕ) : Type 0 where
  broken : IsBroken bytes cs left
  few : length cs ≤ 80
  stops : character_len left ≡ 0

unprintable : (b : ℕ) (bs : List ℕ) → b ≢ 34 → b ≢ 92 → character_len (b ∷ bs) ≡ 0 → is_printable b ≡ false
unprintable b bs q r e = at (is_printable b) refl (rw (ne_eqb b 34 q, ne_eqb b 92 r) at e)
  where
    at : (t : Bool) → is_printable b ≡ t → ◌≡◌ {A = ℕ} (cond (is_printable b) 1 0) 0 → t ≡ false
    at true is h = absurd (let x : ◌≡◌ {A = ℕ} 1 0 = sym (ap (λ (u : Bool). cond u 1 0) is) ∙ h in omega arith)
    at false is h = refl

no_quote : (bytes : List ℕ) (cs : List (List ℕ)) (b : ℕ) (left : List ℕ) → IsBroken bytes cs (b ∷ left) → b ≢ 34
no_quote bytes cs b left h e =
    closes cs left h.are (subst (λ (r : List ℕ). NoToken r) (h.whole ∙ ap (λ (n : ℕ). 34 ∷ (concat cs ++ n ∷ left)) e) h.none)

stop_from : (here : ℕ) (bytes : List ℕ) (cs : List (List ℕ)) (b : ℕ) (left : List ℕ) (ends escape : Bool) → (eqb b 10 || eqb b 13) ≡ ends → eqb b 92 ≡ escape → IsStop here bytes cs (b ∷ left)
    → let at = here + 1 + length (concat cs) in
    IsAt here bytes (Err (cond ends (fault OpenString here) (cond escape (fault BadEscape at) (fault BadByte at))))
stop_from here bytes cs b left true escape e f h = (
  here + 1 + length (concat cs),
  (
    cs,
    b ∷ left,
    h.broken,
    h.few,
    (elim (or_cases (eqb b 10) (eqb b 13) e) [
      | inl x ↦ inl (eqb-true b 10 x)
      | inr x ↦ inr (eqb-true b 13 x)
    ]),
    refl,
  ),
  refl,
)
stop_from here bytes cs b left false true e f h = (cs, b ∷ left, h.broken, h.few, (eqb-true b 92 f, none_begins (b ∷ left) h.stops), refl)
stop_from here bytes cs b left false false e f h =
    let x = or_parts (eqb b 10) (eqb b 13) e in
    inr (cs, b ∷ left, h.broken, h.few, (unprintable b left (no_quote bytes cs b left h.broken) (eqb-false b 92 f) h.stops, eqb-false b 10 x.0, eqb-false b 13 x.1), refl)

stop_right : (here : ℕ) (bytes : List ℕ) (cs : List (List ℕ)) (left : List ℕ) → IsStop here bytes cs left → IsAt here bytes (Err (stopped here (here + 1 + length (concat cs)) left))
stop_right here bytes cs [] h = (here + 1 + length (concat cs), (cs, [], h.broken, h.few, tt, refl), refl)
stop_right here bytes cs (b ∷ left) h = stop_from here bytes cs b left (eqb b 10 || eqb b 13) (eqb b 92) refl refl h

broken_from : (here : ℕ) (bs : List ℕ) (o : Option ℕ) → characters_len 80 bs ≡ o → NoToken (34 ∷ bs) → IsAt here (34 ∷ bs) (Err (broken_behind here bs o))
broken_from here bs None e none =
    let w = walk_none 80 bs e in
    (inr (w.characters, w.rest, record { none = none; are = w.are; whole = ap (λ (r : List ℕ). 34 ∷ r) w.whole }, w.many), refl)
broken_from here bs (Some n) e none =
    let w = walk_some 80 bs n e in
    let h : IsStop here (34 ∷ bs) w.characters (drop n bs) = record { broken = record { none = none; are = w.are; whole = ap (λ (r : List ℕ). 34 ∷ r) w.whole }; few = w.few; stops = w.stops } in
    subst (λ (m : ℕ). IsAt here (34 ∷ bs) (Err (stopped here (here + 1 + m) (drop n bs)))) w.len (stop_right here (34 ∷ bs) w.characters (drop n bs) h)

broken_right : (here : ℕ) (bs : List ℕ) → NoToken (34 ∷ bs) → IsAt here (34 ∷ bs) (Err (broken here bs))
unfolding broken
broken_right here bs none = broken_from here bs (characters_len 80 bs) refl none

misfit_right : (here b : ℕ) (bs : List ℕ) (quote : Bool) → eqb b 34 ≡ quote → is_blank b ≡ false → b ≢ 33 → NoToken (b ∷ bs)
    → IsAt here (b ∷ bs) (Err (cond quote (broken here bs) (fault BadByte here)))
misfit_right here b bs true q blank bang none =
    subst (λ (n : ℕ). NoToken (n ∷ bs) → IsAt here (n ∷ bs) (Err (broken here bs))) (sym (eqb-true b 34 q)) (broken_right here bs) none
misfit_right here b bs false q blank bang none = inl (none, (blank, bang, eqb-false b 34 q), refl)

token_from : (here b : ℕ) (bs : List ℕ) (o : Option (Kind × ℕ)) → longest Start (b ∷ bs) ≡ o → is_blank b ≡ false → b ≢ 33 → IsAt here (b ∷ bs) (token_found here (b ∷ bs) o)
token_from here b bs None e blank bang = misfit_right here b bs (eqb b 34) refl blank bang (longest_none (b ∷ bs) e)
token_from here b bs (Some x) e blank bang =
    let f = longest_some (b ∷ bs) x e in
    token_of_right x.0 here (b ∷ bs) (take x.1 (b ∷ bs)) (drop x.1 (b ∷ bs)) (sym (take-append-drop x.1 (b ∷ bs))) f.shape f.is_longest

pub token_at_right : (here b : ℕ) (bs : List ℕ) → is_blank b ≡ false → b ≢ 33 → IsAt here (b ∷ bs) (token_at here (b ∷ bs))
unfolding token_at
token_at_right here b bs blank bang = token_from here b bs (longest Start (b ∷ bs)) refl blank bang

-- ---- what is correct is found

begin_is : (here : ℕ) (bytes text after : List ℕ) (k : Kind) → bytes ≡ text ++ after → IsToken k text → IsLongest text after → token_at here bytes ≡ token_of (scanned k) here text
unfolding token_at
begin_is here bytes text after k whole h most =
    let front : take (length text) bytes ≡ text = ap (take (length text)) whole ∙ take_at text after (length text) refl in
    ap (token_found here bytes) (longest_is bytes text after k whole h most) ∙ ap (token_of (scanned k) here) front

no_begin : (here : ℕ) (bytes : List ℕ) → NoToken bytes → token_at here bytes ≡ Err (misfit here bytes)
unfolding token_at
no_begin here bytes none = ap (token_found here bytes) (none_longest bytes none)

stop_is : (here : ℕ) (bytes : List ℕ) (cs : List (List ℕ)) (left : List ℕ) → IsBroken bytes cs left → length cs ≤ 80 → character_len left ≡ 0
    → token_at here bytes ≡ Err (stopped here (here + 1 + length (concat cs)) left)
unfolding broken
stop_is here bytes cs left h few stops =
    let n = length (concat cs) in
    let inner : broken_behind here (concat cs ++ left) (characters_len 80 (concat cs ++ left)) ≡ stopped here (here + 1 + n) left =
    ap (broken_behind here (concat cs ++ left)) (walk_of 80 cs left h.are stops few) ∙ ap (stopped here (here + 1 + n)) (drop_at (concat cs) left n refl) in
    no_begin here bytes h.none ∙ ap (λ (r : List ℕ). Err (misfit here r)) h.whole ∙ ap (λ (f : LexFault). Err f) inner

over_is : (here : ℕ) (bytes : List ℕ) (cs : List (List ℕ)) (left : List ℕ) → IsBroken bytes cs left → length cs ≡ 81 → token_at here bytes ≡ Err (fault LongString here)
unfolding broken
over_is here bytes cs left h many =
    let inner : broken_behind here (concat cs ++ left) (characters_len 80 (concat cs ++ left)) ≡ fault LongString here =
    ap (broken_behind here (concat cs ++ left)) (walk_over 80 cs left h.are (omega arith)) in
    no_begin here bytes h.none ∙ ap (λ (r : List ℕ). Err (misfit here r)) h.whole ∙ ap (λ (f : LexFault). Err f) inner

at_end_none : (left : List ℕ) → IsAtEnd left → character_len left ≡ 0
at_end_none [] h = refl
at_end_none (b ∷ bs) (inl e) = subst (λ (n : ℕ). character_len (n ∷ bs) ≡ 0) (sym e) refl
at_end_none (b ∷ bs) (inr e) = subst (λ (n : ℕ). character_len (n ∷ bs) ≡ 0) (sym e) refl

at_end_stopped : (quote at : ℕ) (left : List ℕ) → IsAtEnd left → stopped quote at left ≡ fault OpenString quote
at_end_stopped quote at [] h = refl
at_end_stopped quote at (b ∷ bs) (inl e) = subst (λ (n : ℕ). stopped quote at (n ∷ bs) ≡ fault OpenString quote) (sym e) refl
at_end_stopped quote at (b ∷ bs) (inr e) = subst (λ (n : ℕ). stopped quote at (n ∷ bs) ≡ fault OpenString quote) (sym e) refl

bad_escape_none : (left : List ℕ) → IsBadEscape left → character_len left ≡ 0
bad_escape_none [] h = absurd h
bad_escape_none (b ∷ bs) h = begins_none (b ∷ bs) h.1

bad_escape_stopped : (quote at : ℕ) (left : List ℕ) → IsBadEscape left → stopped quote at left ≡ fault BadEscape at
bad_escape_stopped quote at [] h = absurd h
bad_escape_stopped quote at (b ∷ bs) h = subst (λ (n : ℕ). stopped quote at (n ∷ bs) ≡ fault BadEscape at) (sym h.0) refl

unprintable_other : (b n : ℕ) → is_printable b ≡ false → is_printable n ≡ true → eqb b n ≡ false
unprintable_other b n e f = ne_eqb b n (λ s. let x : false ≡ true = sym e ∙ ap is_printable s ∙ f in cc)

bad_byte_none : (left : List ℕ) → IsBadInString left → character_len left ≡ 0
bad_byte_none [] h = absurd h
bad_byte_none (b ∷ bs) h = rw (unprintable_other b 34 h.0 refl, unprintable_other b 92 h.0 refl, h.0) refl

bad_byte_stopped : (quote at : ℕ) (left : List ℕ) → IsBadInString left → stopped quote at left ≡ fault BadByte at
bad_byte_stopped quote at [] h = absurd h
bad_byte_stopped quote at (b ∷ bs) h = rw (ne_eqb b 10 h.1, ne_eqb b 13 h.2, unprintable_other b 92 h.0 refl) refl

abbrev gives : LexRule → ℕ → Result Lexeme LexFault
gives rule at = Err (fault rule at)

stops_is : (rule : LexRule) (stops : List ℕ → Type 0) → ((left : List ℕ) → stops left → character_len left ≡ 0) → ((quote at : ℕ) (left : List ℕ) → stops left → stopped quote at left ≡ fault rule at)
    → (here : ℕ) (bytes : List ℕ) (at : ℕ) → StopsString stops here bytes at → gives rule at ≡ token_at here bytes
stops_is rule stops none is here bytes at h =
    let cs = h.0 in
    let left = h.1 in
    sym (stop_is here bytes cs left h.2 h.3 (none left h.4) ∙ ap (λ (f : LexFault). Err f) (is here (here + 1 + length (concat cs)) left h.4) ∙ ap (gives rule) (sym h.5))

bad_front_is : (here : ℕ) (bytes : List ℕ) → NoToken bytes → IsBadAtFront bytes → gives BadByte here ≡ token_at here bytes
bad_front_is here [] none h = absurd h
bad_front_is here (b ∷ bs) none h = sym (no_begin here (b ∷ bs) none ∙ ap (λ (t : Bool). Err (cond t (broken here bs) (fault BadByte here))) (ne_eqb b 34 h.2))

misfit_is : (rule : LexRule) (here : ℕ) (bytes : List ℕ) (at : ℕ) → IsMisfit rule here bytes at → gives rule at ≡ token_at here bytes
misfit_is BadByte here bytes at (inl h) = ap (gives BadByte) h.2 ∙ bad_front_is here bytes h.0 h.1
misfit_is BadByte here bytes at (inr h) = stops_is BadByte IsBadInString bad_byte_none bad_byte_stopped here bytes at h
misfit_is OpenString here bytes at h =
    let s = h.1 in
    ap (gives OpenString) h.2 ∙ sym (stop_is here bytes s.0 s.1 s.2 s.3 (at_end_none s.1 s.4) ∙ ap (λ (f : LexFault). Err f) (at_end_stopped here (here + 1 + length (concat s.0)) s.1 s.4))
misfit_is BadEscape here bytes at h = stops_is BadEscape IsBadEscape bad_escape_none bad_escape_stopped here bytes at h
misfit_is LongString here bytes at (inl h, p) =
    ap (gives LongString) p ∙ sym (begin_is here bytes h.text h.after Quoted h.whole (h.characters, h.is_string) h.is_longest ∙ long_string_is here h.text h.characters h.is_string h.excess)
misfit_is LongString here bytes at (inr h, p) = ap (gives LongString) p ∙ sym (over_is here bytes h.0 h.1 h.2 h.3)
misfit_is LongName here bytes at h =
    ap (gives LongName) h.1 ∙ sym (begin_is here bytes h.0.text h.0.after Name h.0.whole h.0.is_token h.0.is_longest ∙ long_name_is here h.0.text h.0.excess)
misfit_is BadLiteral here bytes at h =
    ap (gives BadLiteral) h.1 ∙ sym (begin_is here bytes h.0.text h.0.after Number h.0.whole h.0.is_token h.0.is_longest ∙ bad_literal_is here h.0.text h.0.excess)
misfit_is OpenHeader here bytes at h = absurd h

lexeme_is : (t : Lexeme) (here : ℕ) → t.at ≡ here → lexeme t.kind here t.text ≡ t
lexeme_is t here e = subst (λ (n : ℕ). lexeme t.kind n t.text ≡ t) e refl

pub token_at_is : (here : ℕ) (bytes : List ℕ) (r : Result Lexeme LexFault) → IsAt here bytes r → r ≡ token_at here bytes
token_at_is here bytes (Ok t) h =
    sym (begin_is here bytes t.text h.0 t.kind h.1 h.3 h.4 ∙ token_of_is t.kind here t.text h.3 h.5 ∙ ap (λ (x : Lexeme). Ok x) (lexeme_is t here h.2))
token_at_is here bytes (Err f) h = misfit_is f.rule here bytes f.at h
