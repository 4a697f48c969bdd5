-- The query that waits the longest is admitted, where a slot is free.
use Rattle.core_driver.proofs.Words.{◌<◌, ◌∙◌, ◌≡◌, ◌≢◌, ◌⊎◌, ap, Build, Event, extent_in, first_of, Free, inl, inr, is_free, IsLed, IsOfAdmission, IsSound, length, life_of, Lives, NoneMayCome, oldest_waiting, refl, Reserve, slot_at, Some, Start, started, State, StepsKeep, subst, sym, Took, versions_in, ℕ, ⊎_elim}
use Rattle.pipeline_manager.specs.declared.life.Life.TheVariants as life
use Rattle.event_core.specs.declared.choosing.EventKind.TheVariants as kind
use Rattle.core_driver.proofs.LedLemmas.{led-keeps}
use Rattle.core_driver.proofs.StayLemmas.{not-waiting-admitted}
use Rattle.core_driver.proofs.TakenLemmas.{taken-lives}
use Rattle.core_driver.proofs.WaitLemmas.{IsNext, next-built, next-reserved, next-written, started-rests}

-- the query waits no longer, or it is the next, for which there is a slot
abbrev IsNextOrAdmitted : (query : ℕ) → Lives → Type 0
IsNextOrAdmitted query lives = (life_of lives query ≢ Some life.Waiting) ⊎ IsNext query lives

-- while it is the next, each event of an admission leaves it so, or admits it
next-kept : (query : ℕ) (event : Event) (old new : State) → IsOfAdmission event → IsSound old → Took event old new → IsNext query old.lives
    → IsNextOrAdmitted query new.lives
next-kept query (Reserve other slot) old new admits sound took next = ⊎_elim
    (λ done. inl (λ waits.
    let now : life_of new.lives query ≡ Some life.Building =
    ap (λ lives. life_of lives query) done ∙ next-reserved query slot old.lives sound.slots.lives next.oldest in
    let both : Some life.Building ≡ Some life.Waiting = sym now ∙ waits in cc))
    (λ never. absurd never)
    (taken-lives (Reserve other slot) old new (inl tt) took)
next-kept query (Build other dimension) old new admits sound took next = ⊎_elim
    (λ done. inr (subst (IsNext query) (sym done) (next-built query other dimension old.lives next)))
    (λ spoils. inr (subst (IsNext query) (sym spoils)
    (next-written query other life.Spoiled old.lives sound.slots.lives took.enabled.building refl next)))
    (taken-lives (Build other dimension) old new (inl tt) took)
next-kept query (Start other) old new admits sound took next = ⊎_elim
    (λ done. inr (subst (IsNext query) (sym done)
    (next-written query other
    (started (first_of old.scan.position (versions_in old)) (extent_in old.lives.queries other)) old.lives sound.slots.lives took.enabled.building
    (started-rests (first_of old.scan.position (versions_in old)) (extent_in old.lives.queries other)) next)))
    (λ never. absurd never)
    (taken-lives (Start other) old new (inl tt) took)
next-kept query rest old new admits sound took next = absurd admits

-- each event of an admission leaves it the next, or admitted
kept-admission : (query : ℕ) (event : Event) (old new : State) → IsOfAdmission event → IsSound old → Took event old new
    → IsNextOrAdmitted query old.lives → IsNextOrAdmitted query new.lives
kept-admission query event old new admits sound took so_far = ⊎_elim
    (λ rests. inl (not-waiting-admitted query event old new admits sound took rests))
    (λ next. next-kept query event old new admits sound took next)
    so_far

-- once no slot may be reserved, the query that waited the longest as one was free waits no longer
pub next-admitted : StepsKeep → (query slot : ℕ) (old new : State) → IsSound old → oldest_waiting old.lives ≡ Some query
    → slot < length old.lives.slots → slot_at old.lives slot ≡ Free → IsLed IsOfAdmission old new → NoneMayCome kind.Reserve new
    → life_of new.lives query ≢ Some life.Waiting
next-admitted keep query slot old new sound oldest there is_free led none = ⊎_elim
    (λ rests. rests)
    (λ next. absurd (none (Reserve query next.slot) refl (record { oldest = next.oldest; there = next.there; is_free = next.is_free })))
    (led-keeps keep IsOfAdmission (λ state. IsNextOrAdmitted query state.lives) (kept-admission query) old new led sound
    (inr (record { oldest = oldest; slot = slot; there = there; is_free = is_free })))
