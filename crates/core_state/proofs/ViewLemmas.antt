-- What each slot shows: who holds it, with the life and the extent, what was asked and what is kept of it. A scan and a
-- distributor have what they had at each slot that shows what it showed.
use Rattle.core_state.proofs.Words.{◌<◌, ◌∙◌, ◌≡◌, ◌≢◌, ◌⊎◌, Accepted, accepted_at, ap, arith, attached_at, attached_to, Bool, cases_eq, cond, false, get_or, gets_rows, Grouped, groups_in, holder_of, inl, inr, IsScannedAs, length, length-set, Life, life_at, life_of, List, None, none-some, Option, option_and_then, option_map, option_map_or, query_in, QueryLife, refl, Running, running_at, RunsAs, RunsAt, same_Some, Scanning, set, slot_at, Some, start_at, start_in, State, subst, sym, true, ℕ, ⊎_elim}
use Rattle.pipeline_manager.specs.declared.life.Life.TheVariants as life
use Rattle.core_state.proofs.AttachedFrameLemmas.{attached-same, attached-set}
use Rattle.core_state.proofs.FrameLemmas.{at-set}
use Rattle.core_state.proofs.HandedSlotLemmas.{gets, kept-none, kept_by}
use Rattle.core_state.proofs.ScannedCutLemmas.{RunsBy, found-same}
use Rattle.core_state.proofs.ScannedRunLemmas.{found_by, runs-none}
use Rattle.core_state.proofs.ScannedSlotLemmas.{run_in}

-- nobody holds a slot who gets rows
abbrev pub RestsAt : State → (slot : ℕ) → Type 0
RestsAt state slot = option_map_or gets_rows (life_at state.lives slot) false ≡ false

-- a slot has its holder, of whom nothing changes
pub record SameAt (state later : State) (slot : ℕ) : Type 0 where
  pub holder : holder_of (slot_at later.lives slot) ≡ holder_of (slot_at state.lives slot)
  pub lives : (query : ℕ) → holder_of (slot_at state.lives slot) ≡ Some query
      → query_in later.lives.queries query ≡ query_in state.lives.queries query
  pub asked : (query : ℕ) → holder_of (slot_at state.lives slot) ≡ Some query
      → accepted_at later.accepted query ≡ accepted_at state.accepted query

-- a slot shows what it showed, or nobody holds it who gets rows, before and after
abbrev pub ShowsAs : (state later : State) → (slot : ℕ) → Type 0
ShowsAs state later slot = (RestsAt state slot × RestsAt later slot) ⊎ SameAt state later slot

-- each slot does, but for one if there is one, and the scan stands where it stood
pub record Views (state later : State) (without : Option ℕ) : Type 0 where
  pub position : later.scan.position ≡ state.scan.position
  pub count : length later.lives.slots ≡ length state.lives.slots
  pub each : (slot : ℕ) → slot < length state.lives.slots → without ≢ Some slot → ShowsAs state later slot

-- What a scan has.

-- where nobody gets rows, nobody runs
rests-none : (state : State) (slot : ℕ) → RestsAt state slot → start_at state.lives slot ≡ None
rests-none state slot rests = by_life (life_at state.lives slot) rests
  where
    by_life : (o : Option Life) → option_map_or gets_rows o false ≡ false → option_and_then start_in o ≡ None
    by_life (Some (life.Running start left)) gets = absurd (let both : true ≡ false = gets in cc)
    by_life other gets = refl

none-stay : (state later : State) (slot : ℕ) (running : List (Option Running)) → start_at state.lives slot ≡ None → start_at later.lives slot ≡ None
    → RunsAt state running slot → RunsAt later running slot
none-stay state later slot running before after fits =
    (runs-none later slot (get_or running slot None) after).1 ((runs-none state slot (get_or running slot None) before).0 fits)

shows-runs : (state later : State) (slot : ℕ) (running : List (Option Running)) → ShowsAs state later slot
    → RunsAt state running slot → RunsAt later running slot
shows-runs state later slot running (inl rests) fits =
    none-stay state later slot running (rests-none state slot rests.0) (rests-none later slot rests.1) fits
shows-runs state later slot running (inr same) fits =
    subst (λ holder. RunsBy later.accepted later.lives slot holder (get_or running slot None)) (sym same.holder)
    (by_holder (holder_of (slot_at state.lives slot)) refl fits)
  where
    by_holder : (holder : Option ℕ) → holder_of (slot_at state.lives slot) ≡ holder
        → RunsBy state.accepted state.lives slot holder (get_or running slot None)
        → RunsBy later.accepted later.lives slot holder (get_or running slot None)
    by_holder None is runs = runs
    by_holder (Some query) is runs =
        subst (λ now. RunsAs now (run_in now (found_by later.accepted later.lives slot (Some query))) (get_or running slot None))
        (sym (ap (option_map (λ (e : QueryLife). e.life)) (same.lives query is)))
        (subst (λ found. RunsAs (life_of state.lives query) (run_in (life_of state.lives query) found) (get_or running slot None))
        (sym (found-same state.accepted later.accepted state.lives later.lives slot query (same.asked query is)
        (ap (λ o. option_map_or (λ (e : QueryLife). e.extent) o 0) (same.lives query is)))) runs)

-- a scan stays where each slot of it does
pub scanned-stays : (state later : State) (scan : Scanning) → later.scan.position ≡ state.scan.position
    → length later.lives.slots ≡ length state.lives.slots
    → ((slot : ℕ) → slot < length state.lives.slots → RunsAt state scan.running slot → RunsAt later scan.running slot)
    → IsScannedAs state scan → IsScannedAs later scan
scanned-stays state later scan position count stays same = record {
  position = same.position ∙ sym position;
  count = same.count ∙ sym count;
  slots = λ slot low. let inside : slot < length state.lives.slots = omega arith in stays slot inside (same.slots slot inside);
}

pub scanned-views : (state later : State) (scan : Scanning) → Views state later None → IsScannedAs state scan → IsScannedAs later scan
scanned-views state later scan views = scanned-stays state later scan views.position views.count
    (λ slot low. shows-runs state later slot scan.running (views.each slot low (none-some slot)))

-- so too where nobody runs in the other slot before and after
pub scanned-none : (state later : State) (scan : Scanning) (slot : ℕ) → Views state later (Some slot)
    → start_at state.lives slot ≡ None → start_at later.lives slot ≡ None → IsScannedAs state scan → IsScannedAs later scan
scanned-none state later scan slot views before after = scanned-stays state later scan views.position views.count (λ at low. ⊎_elim
    (λ is. none-stay state later at scan.running (ap (start_at state.lives) is ∙ before) (ap (start_at later.lives) is ∙ after))
    (λ apart. shows-runs state later at scan.running (views.each at low (λ both. apart (sym (same_Some slot at both)))))
    (cases_eq at slot))

-- a scan into whose other slot is written what runs there
pub scanned-set : (state later : State) (scan : Scanning) (slot : ℕ) (new : Option Running) → Views state later (Some slot)
    → RunsAs (life_at later.lives slot) (running_at later slot) new → IsScannedAs state scan
    → IsScannedAs later (record scan { running = set scan.running slot new })
scanned-set state later scan slot new views here same = record {
  position = same.position ∙ sym views.position;
  count = length-set scan.running slot new ∙ same.count ∙ sym views.count;
  slots = λ at low.
      let many = views.count in
      let all = same.count in
      let inside : at < length state.lives.slots = omega arith in
      at-set (RunsAs (life_at later.lives at) (running_at later at)) scan.running slot at new None (omega arith)
      (λ is. subst (λ n. RunsAs (life_at later.lives n) (running_at later n) new) (sym is) here)
      (λ apart. shows-runs state later at scan.running (views.each at inside (λ both. apart (sym (same_Some slot at both)))) (same.slots at inside));
}

-- What a distributor has.

-- nothing for nobody who gets rows
pub attached-none : (state : State) (slot : ℕ) → RestsAt state slot → attached_at state slot ≡ None
attached-none state slot rests = by_holder (holder_of (slot_at state.lives slot)) rests
  where
    by_holder : (o : Option ℕ) → option_map_or gets_rows (option_and_then (life_of state.lives) o) false ≡ false → kept_by state o ≡ None
    by_holder None none = refl
    by_holder (Some query) none = kept-none state query none

shows-attached : (state later : State) (slot : ℕ) → ShowsAs state later slot → attached_at later slot ≡ attached_at state slot
shows-attached state later slot (inl rests) = attached-none later slot rests.1 ∙ sym (attached-none state slot rests.0)
shows-attached state later slot (inr same) = ap (kept_by later) same.holder ∙ by_holder (holder_of (slot_at state.lives slot)) refl
  where
    by_holder : (holder : Option ℕ) → holder_of (slot_at state.lives slot) ≡ holder → kept_by later holder ≡ kept_by state holder
    by_holder None is = refl
    by_holder (Some query) is =
        ap (λ o. option_and_then (groups_in later)
        (cond {A = Option ℕ} (option_map_or gets_rows (option_map (λ (e : QueryLife). e.life) o) false) (Some query) None)) (same.lives query is)
        ∙ by_test (gets state.lives query)
      where
        by_test : (t : Bool) → option_and_then (groups_in later) (cond {A = Option ℕ} t (Some query) None)
            ≡ option_and_then (groups_in state) (cond {A = Option ℕ} t (Some query) None)
        by_test true = ap (λ o. option_map_or (λ (a : Accepted). a.groups) o None) (same.asked query is)
        by_test false = refl

pub attached-views : (state later : State) → Views state later None → attached_to later ≡ attached_to state
attached-views state later views =
    attached-same state later views.count (λ slot low. shows-attached state later slot (views.each slot low (none-some slot)))

-- and at the other slot
pub attached-but : (state later : State) (slot : ℕ) (attached : Option Grouped) → Views state later (Some slot)
    → slot < length state.lives.slots → attached_at later slot ≡ attached → attached_to later ≡ set (attached_to state) slot attached
attached-but state later slot attached views low here = attached-set state later slot attached views.count low here
    (λ other inside apart. shows-attached state later other (views.each other inside (λ both. apart (sym (same_Some slot other both)))))
