-- What is left of a parse by `clap`, from one word on: whether it fails, and which rows it finds.
use Rattle.std.proofs.Common.{◌≡◌, ◌∙◌, false, cond, List, [], ◌∷◌, Option, Some, None, sym, subst, ap, true≢false}
use Rattle.std.specs.List.{fold}
use Rattle.std.specs.Str.{IsUtf8, bytes_eq}
use Rattle.clap.specs.Faults.{check_fault, defaults_fault, settle_fault, turn_fault, walk_fault}
use Rattle.clap.specs.Kinds.{Kinds, check_kinds, or_else}
use Rattle.clap.specs.Walk.{Held, Row, Walk, finished, idle, settled, walked}
use Rattle.star_main.specs.Rows.{passes}
use Rattle.star_main.specs.Words.{Text}
use Rattle.star_main.proofs.RuleLemmas.{defaults_pass, none_required, rules_for}
use Rattle.star_main.proofs.TurnLemmas.{at, flags_fail, held_fails, or_else-assoc, or_else-fails, or_else-none, shape_for}
use Rattle.star_main.proofs.UseLemmas.{plain_fails}
use Rattle.star_main.proofs.WordLemmas.{View, first_char, two_hyphens, view}
use Rattle.star_main.proofs.WordLemmas as seen

-- words that are text, and none of which is `--`
abbrev pub AreWords : List Text → Type 0
AreWords [] = Unit {0}
AreWords (word ∷ rest) = IsUtf8 word × (bytes_eq word two_hyphens ≡ false) × AreWords rest

-- the faults of a parse from a walk on, and what it finds
abbrev pub fault_from : List Text → Walk → List Text → Kinds
fault_from names w rest =
    let end = (fold (walked (rules_for names) []) w rest).held in
    or_else (walk_fault (shape_for names) [] w rest)
    (or_else [] (or_else (settle_fault (rules_for names) false end)
    (or_else (defaults_fault (settled (rules_for names) end).rows (rules_for names))
    (check_fault (shape_for names) (finished (rules_for names) end) false))))

abbrev pub answer_from : List Text → Walk → List Text → Option (List Row)
answer_from names w rest =
    cond (passes (fault_from names w rest)) (Some (finished (rules_for names) (fold (walked (rules_for names) []) w rest).held)) None

abbrev answer_at : List Text → Walk → List Text → Kinds → Option (List Row)
answer_at names w rest fault =
    cond (passes fault) (Some (finished (rules_for names) (fold (walked (rules_for names) []) w rest).held)) None

-- at the end only what is held may fail
pub end_is : (names : List Text) (h : Held) (waiting : _) → fault_from names (at h waiting) [] ≡ settle_fault (rules_for names) false h
unfolding walk_fault
end_is names h waiting =
    (λ i. or_else (settle_fault (rules_for names) false h)
    (or_else (defaults_pass names (settled (rules_for names) h).rows i)
    (check_kinds false false (none_required names (finished (rules_for names) h) i))))
    ∙ or_else-none (settle_fault (rules_for names) false h)

step_is : (names : List Text) (w : Walk) (word : Text) (rest : List Text)
    → fault_from names w (word ∷ rest) ≡ or_else (turn_fault (shape_for names) [] w word) (fault_from names (walked (rules_for names) [] w word) rest)
unfolding walk_fault
step_is names w word rest = or_else-assoc (turn_fault (shape_for names) [] w word) _ _

-- a word that fails, and a word that does not
pub step_fails : (names : List Text) (w : Walk) (word : Text) (rest : List Text) → passes (turn_fault (shape_for names) [] w word) ≡ false
    → answer_from names w (word ∷ rest) ≡ None
step_fails names w word rest bad =
    ap (λ b. cond b (Some (finished (rules_for names) (fold (walked (rules_for names) []) w (word ∷ rest)).held)) None)
    (ap passes (step_is names w word rest) ∙ or_else-fails (turn_fault (shape_for names) [] w word) _ bad)

pub step_passes : (names : List Text) (w after : Walk) (word : Text) (rest : List Text) → turn_fault (shape_for names) [] w word ≡ []
    → walked (rules_for names) [] w word ≡ after → answer_from names w (word ∷ rest) ≡ answer_from names after rest
step_passes names w after word rest fine is =
    ap (answer_at names w (word ∷ rest)) (step_is names w word rest ∙ ap (λ f. or_else f (fault_from names (walked (rules_for names) [] w word) rest)) fine)
    ∙ ap (λ v. answer_from names v rest) is

-- a walk that holds a use that fails finds nothing
pub doomed : (names : List Text) (h : Held) (rest : List Text) → h.skip ≡ 0 → AreWords rest → passes (settle_fault (rules_for names) false h) ≡ false
    → answer_from names (at h idle) rest ≡ None
doomed names h [] skip ok bad =
    ap (λ b. cond b (Some (finished (rules_for names) h)) None) (ap passes (end_is names h idle) ∙ bad)
doomed names h (word ∷ rest) skip ok bad = step_fails names (at h idle) word rest (go (view word))
  where
    go : View word → passes (turn_fault (shape_for names) [] (at h idle) word) ≡ false
    go (seen.hyphens e) = absurd (true≢false (sym e ∙ ok.1))
    go (seen.named name attached spelt long is) = held_fails names h idle word spelt name attached long bad
    go (seen.flags first more spelt long short word_is is) =
        let char = first_char first more (subst IsUtf8 word_is ok.0) in
        flags_fail names h idle word spelt long first more char.0 short char.1 skip
    go (seen.other spelt long short is) = plain_fails names h word spelt long short
