-- Queries of which the first do not wait.
use Rattle.std.proofs.Common.{◌≡◌, ℕ, ◌+◌, ◌-◌, false, true, Bool, cond, eqb, ltb, List, length, take, map, refl, sym, arith, subst}
use Rattle.std.specs.List.{All}
use Rattle.std.proofs.lemmas.List.{length-map, take-map}
use Rattle.std.proofs.lemmas.List.Elements.{All-map, All-weaker}
use Rattle.pipeline_manager.specs.declared.life.Life.{Life}
use Rattle.pipeline_manager.specs.declared.life.Life.TheVariants.{Waiting, Building, Running, Ending, Answered, Spoiled, Abandoned}
use Rattle.pipeline_manager.specs.declared.life.SlotState.{SlotState}
use Rattle.pipeline_manager.specs.declared.life.QueryLife.{QueryLife}
use Rattle.pipeline_manager.specs.Lives.{is_waiting}
use Rattle.pipeline_manager.specs.Changes.{with_life, renewed, cut_query, cut_life, covered, started}
use Rattle.pipeline_manager.specs.Inside.{ArePassed}
use Rattle.pipeline_manager.specs.LetGo.{cut_held}
use Rattle.pipeline_manager.specs.Sound.{slots_held}

-- a query does not wait
abbrev pub WaitsNot : QueryLife → Type 0
WaitsNot entry = is_waiting entry.life ≡ false

-- a change that makes no query wait
passed-map : (change : QueryLife → QueryLife) (queries : List QueryLife) (count : ℕ)
    → ((entry : QueryLife) → WaitsNot entry → WaitsNot (change entry)) → ArePassed count queries
    → ArePassed count (map change queries)
passed-map change queries count keeps passed = record {
  in_range = let many : length (map change queries) ≡ length queries = length-map queries change in
      let in_range = passed.in_range in omega arith;
  none_waits = subst (All WaitsNot) (sym (take-map change count queries))
      (All-map WaitsNot change (take count queries)
      (All-weaker WaitsNot (λ entry. WaitsNot (change entry)) keeps (take count queries) passed.none_waits));
}

-- a life that does not wait makes no query wait
renewed-waits : (query : ℕ) (life : Life) → is_waiting life ≡ false → (entry : QueryLife) → WaitsNot entry
    → WaitsNot (renewed query life entry)
renewed-waits query life other entry waits = by_test (eqb entry.query query) refl
  where
    by_test : (same : Bool) → same ≡ eqb entry.query query → WaitsNot (renewed query life entry)
    by_test true e = rw (sym e) other
    by_test false e = rw (sym e) waits

pub passed-with_life : (query : ℕ) (life : Life) (queries : List QueryLife) (count : ℕ) → is_waiting life ≡ false
    → ArePassed count queries → ArePassed count (with_life query life queries)
passed-with_life query life queries count other passed =
    passed-map (renewed query life) queries count (renewed-waits query life other) passed

-- a query that begins to run does not wait
pub started-waits : (start extent : ℕ) → is_waiting (started start extent) ≡ false
started-waits start extent = by_test (eqb extent 0) refl
  where
    by_test : (none : Bool) → none ≡ eqb extent 0 → is_waiting (started start extent) ≡ false
    by_test true e = rw (sym e) refl
    by_test false e = rw (sym e) refl

-- no query waits after a cut that did not before
cut_life-waits : (positions : ℕ) (life : Life) → is_waiting life ≡ false → is_waiting (cut_life positions life) ≡ false
cut_life-waits positions Waiting waits = waits
cut_life-waits positions (Running start left) waits = started-waits start (left - positions)
cut_life-waits positions other waits = refl

pub passed-cut_held : (first last : ℕ) (slots : List SlotState) (queries : List QueryLife) (count : ℕ) → ArePassed count queries
    → ArePassed count (map (cut_held first last slots) queries)
passed-cut_held first last slots queries count passed =
    passed-map (cut_held first last slots) queries count (λ entry waits. by_held entry (ltb 0 (slots_held entry.query slots)) waits) passed
  where
    by_held : (entry : QueryLife) (held : Bool) → WaitsNot entry → WaitsNot (cond {A = QueryLife} held (cut_query first last entry) entry)
    by_held entry true waits = cut_life-waits (covered first last entry.extent) entry.life waits
    by_held entry false waits = waits
