-- What the clauses of a parse say, as one equation.
use Rattle.std.proofs.Common.{◌≡◌, ◌⊎◌, inl, inr, ◌+◌, ◌<◌, ℕ, true, false, cond, List, [], ◌∷◌, length, map, take, Some, None, refl, ap, sym, ◌∙◌}
use Rattle.std.specs.Borrow.{Bor}
use Rattle.std.specs.List.{slice_index_or}
use Rattle.std.proofs.lemmas.List.Folds.{fold-map}
use Rattle.std.proofs.lemmas.List.Sums.{fold_more}
use Rattle.std.proofs.lemmas.Bool.{and_parts}
use Rattle.clap.specs.Kinds.{Kinds, HasKind, IsAmong}
use Rattle.clap.specs.Faults.{fault_of, is_free_app, is_simple_and_free}
use Rattle.clap.specs.Matches.{found_of}
use Rattle.clap.specs.Simple.{App, HasMatchesOf, built, is_simple, matches_of}
use Rattle.clap.specs.Values.{kind_of}
use Rattle.clap.specs.Walk.{rows_of}
use Rattle.clap.specs.declared.error.Error.{Error}
use Rattle.clap.specs.declared.error.kind.ErrorKind.{ErrorKind}
use Rattle.clap.specs.declared.error.kind.ErrorKind.TheVariants.{OutOfMemory}
use Rattle.clap.specs.declared.parser.matches.ArgMatches.{ArgMatches}
use Rattle.star_main.specs.Rows.{answer_of, app_with, bare_app, passes, with_name}
use Rattle.star_main.specs.Words.{Text}

pub answer-some : (app : App) (words : List Text) (matches : ArgMatches) → is_simple_and_free app ≡ true → fault_of app words ≡ []
    → HasMatchesOf app words matches → Some (rows_of (found_of matches)) ≡ answer_of app words
answer-some app words matches simple fine found =
    ap Some (found (and_parts (is_simple app) (is_free_app (built app)) simple).0).0
    ∙ sym (ap (λ kinds. cond (passes kinds) (Some (matches_of app words)) None) fine)

none_passes : (kind : ErrorKind) (kinds : Kinds) → IsAmong kind kinds → passes kinds ≡ false
none_passes kind [] h = absurd h
none_passes kind (k ∷ kinds) h = refl

other_kind : (kind : ErrorKind) (kinds : Kinds) → (kind ≡ OutOfMemory → ⊥) → (kind ≡ OutOfMemory) ⊎ IsAmong kind kinds → passes kinds ≡ false
other_kind kind kinds not h = elim h [ inl e ↦ absurd (not e) | inr among ↦ none_passes kind kinds among ]

pub answer-none : (app : App) (words : List Text) (error : Error) → (kind_of error ≡ OutOfMemory → ⊥) → HasKind (fault_of app words) error
    → None ≡ answer_of app words
answer-none app words error not has =
    sym (ap (λ b. cond b (Some (matches_of app words)) None) (other_kind (kind_of error) (fault_of app words) not has))

-- one more name gives one more option
pub names_more : (names : List (Bor Text)) (i : ℕ) (d : Bor Text) → i < length names
    → app_with (map (λ name. name.now) (take (i + 1) names)) ≡ with_name (app_with (map (λ name. name.now) (take i names))) (slice_index_or names i d).now
names_more names i d lt =
    fold-map with_name (λ name. name.now) bare_app (take (i + 1) names)
    ∙ fold_more (λ app (name : Bor Text). with_name app name.now) bare_app names i d lt
    ∙ sym (ap (λ app. with_name app (slice_index_or names i d).now) (fold-map with_name (λ name. name.now) bare_app (take i names)))
