-- `clap`'s walk over words finds what the strict reader finds, and fails where that reader finds nothing.
use Rattle.std.proofs.Common.{◌≡◌, ◌∙◌, Bool, true, false, cond, not, ◌&&◌, List, [], ◌∷◌, ◌++◌, map, Option, Some, None, refl, sym, subst, ap, true≢false, append-nil}
use Rattle.std.specs.Prelude.{option_and_then}
use Rattle.std.specs.Str.{IsUtf8}
use Rattle.std.proofs.lemmas.List.{map-append}
use Rattle.clap.specs.Faults.{settle_fault, use_fault}
use Rattle.clap.specs.Kinds.{or_else}
use Rattle.clap.specs.Walk.{Row, finished, has_row, idle, option, settled_rows, used}
use Rattle.star_main.specs.Rows.{passes}
use Rattle.star_main.specs.Table.{is_among}
use Rattle.star_main.specs.Words.{NamedOption, Text}
use Rattle.star_main.proofs.StrictReader.{Word, strict_at, strict_from, word_of}
use Rattle.star_main.proofs.StrictReader as words
use Rattle.star_main.proofs.RuleLemmas.{defaults_add_none, has_row-among, names_in, row_for, rule, rules_for, used_new}
use Rattle.star_main.proofs.TurnLemmas.{alone_turn, alone_walk, at, attached_turn, attached_walk, flags_fail, held_fails, holding, or_else-fails, unknown_fails}
use Rattle.star_main.proofs.UseLemmas.{plain_fails, settle_rows, settle_use, use_again, use_new, value_turn, value_walk, waiting_fails}
use Rattle.star_main.proofs.WordLemmas.{View, first_char, two_hyphens, view}
use Rattle.star_main.proofs.WordLemmas as seen
use Rattle.star_main.proofs.ParseLemmas.{AreWords, answer_from, doomed, end_is, step_fails, step_passes}
use Rattle.star_main.proofs.ReaderLemmas.{entry, found_with, joins, read_from, read_step, spoilt, unknown_waits}

-- with nothing that waits, and with an option that waits for its value
abbrev pub Idle : List Text → List Text → Type 0
Idle names rest = (taken : List NamedOption) (rows : List Row) (pending : Option (Text × List Text))
    → settle_fault (rules_for names) false (holding rows pending) ≡ []
    → settled_rows (rules_for names) pending rows ≡ map row_for taken
    → answer_from names (at (holding rows pending) idle) rest ≡ read_from names taken None rest

abbrev pub Waits : List Text → List Text → Type 0
Waits names rest = (taken : List NamedOption) (name : Text) → is_among names name ≡ true
    → answer_from names (at (holding (map row_for taken) (Some (name, []))) (option name)) rest ≡ read_from names taken (Some name) rest

row_among : (taken : List NamedOption) (name : Text) (b : Bool) → is_among (names_in taken) name ≡ b → has_row name (map row_for taken) ≡ b
row_among taken name b e = has_row-among taken name ∙ e

-- the rows with those of a new entry
rows_joined : (taken : List NamedOption) (name value : Text) → is_among (names_in taken) name ≡ false
    → used (rule name) (value ∷ []) (map row_for taken) ≡ map row_for (taken ++ entry name value ∷ [])
rows_joined taken name value new =
    used_new name value (map row_for taken) (row_among taken name false new) ∙ sym (map-append row_for taken (entry name value ∷ []))

idle_ends : (names : List Text) → Idle names []
unfolding strict_from
idle_ends names taken rows pending fine is =
    ap (λ b. cond b (Some (finished (rules_for names) (holding rows pending))) None)
    (ap passes (end_is names (holding rows pending) idle ∙ fine))
    ∙ ap Some (defaults_add_none names (settled_rows (rules_for names) pending rows) ∙ is ∙ ap (map row_for) (sym (append-nil taken)))

waits_ends : (names : List Text) → Waits names []
unfolding strict_from
waits_ends names taken name known =
    ap (λ b. cond b (Some (finished (rules_for names) (holding (map row_for taken) (Some (name, []))))) None)
    (ap passes (end_is names (holding (map row_for taken) (Some (name, []))) (option name)) ∙ waiting_fails names (map row_for taken) name known)

module _ (names : List Text) (word : Text) (rest : List Text) (ok : AreWords (word ∷ rest)) (idle_on : Idle names rest) (waits_on : Waits names rest) where
  idle_step : Idle names (word ∷ rest)
  idle_step taken rows pending fine is = go (view word)
    where
      go : View word → answer_from names (at (holding rows pending) idle) (word ∷ rest) ≡ read_from names taken None (word ∷ rest)
      go (seen.hyphens e) = absurd (true≢false (sym e ∙ ok.1))
      go (seen.named name attached spelt long says) = by (is_among names name) refl attached refl
        where
          again : (text : Text) → attached ≡ Some text → is_among names name ≡ true → (b : Bool) → is_among (names_in taken) name ≡ b
              → answer_from names (at (holding rows pending) idle) (word ∷ rest) ≡ read_from names taken None (word ∷ rest)
          again text a known true old =
              step_fails names (at (holding rows pending) idle) word rest
              (ap passes (attached_turn names (holding rows pending) idle word spelt name attached long known text a
              ∙ (λ i. or_else (or_else (fine i) (use_fault false (rule name) (text ∷ []) (is i))) []))
              ∙ or_else-fails (use_fault false (rule name) (text ∷ []) (map row_for taken)) [] (use_again name text (map row_for taken) (row_among taken name true old)))
              ∙ sym (read_step names taken None word rest (words.option name (Some text)) (says ∙ ap (words.option name) a)
              ∙ spoilt names taken name text (strict_from rest None) (λ i. known i && not (old i)))
          again text a known false new =
              step_passes names (at (holding rows pending) idle) (at (holding (map row_for (taken ++ entry name text ∷ [])) None) idle) word rest
              (attached_turn names (holding rows pending) idle word spelt name attached long known text a
              ∙ (λ i. or_else (or_else (fine i) (use_fault false (rule name) (text ∷ []) (is i))) [])
              ∙ ap (λ k. or_else k []) (use_new name text (map row_for taken) (row_among taken name false new)))
              (attached_walk names (holding rows pending) idle word spelt name attached long known text a
              ∙ ap (λ rs. at (holding rs None) idle) (ap (used (rule name) (text ∷ [])) is ∙ rows_joined taken name text new))
              ∙ idle_on (taken ++ entry name text ∷ []) (map row_for (taken ++ entry name text ∷ [])) None refl refl
              ∙ sym (read_step names taken None word rest (words.option name (Some text)) (says ∙ ap (words.option name) a)
              ∙ joins names taken name text (strict_from rest None) known new)

          unknown : is_among names name ≡ false → (v : Option Text) → attached ≡ v
              → option_and_then (found_with names taken) (strict_at None word (words.option name v) (strict_from rest)) ≡ None
          unknown e (Some text) a = spoilt names taken name text (strict_from rest None) (ap (λ b. b && not (is_among (names_in taken) name)) e)
          unknown e None a = unknown_waits names taken name rest e

          by : (b : Bool) → is_among names name ≡ b → (v : Option Text) → attached ≡ v
              → answer_from names (at (holding rows pending) idle) (word ∷ rest) ≡ read_from names taken None (word ∷ rest)
          by false e v a =
              step_fails names (at (holding rows pending) idle) word rest (unknown_fails names (holding rows pending) idle word spelt name attached long e)
              ∙ sym (read_step names taken None word rest (words.option name v) (says ∙ ap (words.option name) a) ∙ unknown e v a)
          by true e (Some text) a = again text a e (is_among (names_in taken) name) refl
          by true e None a =
              step_passes names (at (holding rows pending) idle) (at (holding (map row_for taken) (Some (name, []))) (option name)) word rest
              (alone_turn names (holding rows pending) idle word spelt name attached long e a ∙ ap (λ k. or_else k []) fine)
              (alone_walk names (holding rows pending) idle word spelt name attached long e a
              ∙ ap (λ rs. at (holding rs (Some (name, []))) (option name)) is)
              ∙ waits_on taken name e
              ∙ sym (read_step names taken None word rest (words.option name None) (says ∙ ap (words.option name) a))
      go (seen.flags first more spelt long short word_is says) =
          let char = first_char first more (subst IsUtf8 word_is ok.0) in
          step_fails names (at (holding rows pending) idle) word rest (flags_fail names (holding rows pending) idle word spelt long first more char.0 short char.1 refl)
          ∙ sym (read_step names taken None word rest words.stray says)
      go (seen.other spelt long short says) =
          step_fails names (at (holding rows pending) idle) word rest (plain_fails names (holding rows pending) word spelt long short)
          ∙ sym (read_step names taken None word rest words.plain says)

  waits_step : Waits names (word ∷ rest)
  waits_step taken name known = go (view word)
    where
      go : View word → answer_from names (at (holding (map row_for taken) (Some (name, []))) (option name)) (word ∷ rest) ≡ read_from names taken (Some name) (word ∷ rest)
      go (seen.hyphens e) = absurd (true≢false (sym e ∙ ok.1))
      go (seen.named second attached spelt long says) =
          step_fails names (at (holding (map row_for taken) (Some (name, []))) (option name)) word rest
          (held_fails names (holding (map row_for taken) (Some (name, []))) (option name) word spelt second attached long (waiting_fails names (map row_for taken) name known))
          ∙ sym (read_step names taken (Some name) word rest (words.option second attached) says)
      go (seen.flags first more spelt long short word_is says) =
          let char = first_char first more (subst IsUtf8 word_is ok.0) in
          step_fails names (at (holding (map row_for taken) (Some (name, []))) (option name)) word rest
          (flags_fail names (holding (map row_for taken) (Some (name, []))) (option name) word spelt long first more char.0 short char.1 refl)
          ∙ sym (read_step names taken (Some name) word rest words.stray says)
      go (seen.other spelt long short says) = by (is_among (names_in taken) name) refl
        where
          passed : answer_from names (at (holding (map row_for taken) (Some (name, []))) (option name)) (word ∷ rest)
              ≡ answer_from names (at (holding (map row_for taken) (Some (name, word ∷ []))) idle) rest
          passed =
              step_passes names (at (holding (map row_for taken) (Some (name, []))) (option name)) (at (holding (map row_for taken) (Some (name, word ∷ []))) idle) word rest
              (value_turn names (map row_for taken) name word spelt long short known) (value_walk names (map row_for taken) name word spelt long short known)

          by : (b : Bool) → is_among (names_in taken) name ≡ b
              → answer_from names (at (holding (map row_for taken) (Some (name, []))) (option name)) (word ∷ rest) ≡ read_from names taken (Some name) (word ∷ rest)
          by true old =
              passed
              ∙ doomed names (holding (map row_for taken) (Some (name, word ∷ []))) rest refl ok.2
              (ap passes (settle_use names (map row_for taken) name known (word ∷ [])) ∙ use_again name word (map row_for taken) (row_among taken name true old))
              ∙ sym (read_step names taken (Some name) word rest words.plain says
              ∙ spoilt names taken name word (strict_from rest None) (λ i. known i && not (old i)))
          by false new =
              passed
              ∙ idle_on (taken ++ entry name word ∷ []) (map row_for taken) (Some (name, word ∷ []))
              (settle_use names (map row_for taken) name known (word ∷ []) ∙ use_new name word (map row_for taken) (row_among taken name false new))
              (settle_rows names (map row_for taken) name known (word ∷ []) ∙ rows_joined taken name word new)
              ∙ sym (read_step names taken (Some name) word rest words.plain says ∙ joins names taken name word (strict_from rest None) known new)

pub reads : (names : List Text) (rest : List Text) → AreWords rest → Idle names rest × Waits names rest
reads names [] ok = (idle_ends names, waits_ends names)
reads names (word ∷ rest) ok =
    let on = reads names rest ok.2 in
    (idle_step names word rest ok on.0 on.1, waits_step names word rest ok on.0 on.1)
