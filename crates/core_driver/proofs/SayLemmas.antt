-- What is said of the life of a query stays said of it through the events of the driver.
use Rattle.core_driver.proofs.Words.{◌-◌, Build, Cut, Distribute, end_in, Event, extent_in, Finish, first_in, first_of, inl, inr, IsDriven, IsEnabled, IsOfAdmission, IsOfRound, IsSound, Life, life_in, life_of, Lives, lives_by, Option, Reserve, Spoils, Start, started, State, subst, sym, Took, versions_in, ℕ, ⊎_elim}
use Rattle.pipeline_manager.specs.declared.life.Life.TheVariants as life
use Rattle.core_state.proofs.SaysLemmas.{ended-cases, says-cut, says-spoiled}
use Rattle.core_state.proofs.WholeLivesLemmas.{built-queries}
use Rattle.core_driver.proofs.TakenLemmas.{taken-lives}
use Rattle.core_driver.proofs.TurnLemmas.{AdmissionKeeps, RoundKeeps, says-turned, says-waited}

-- an event of a round that is done
round-done : (Says : Option Life → Type 0) → RoundKeeps Says → (number : ℕ) (event : Event) (state : State) → IsOfRound event
    → Says (life_of state.lives number) → Says (life_of (lives_by event state) number)
round-done Says keeps number (Reserve query slot) state round says = absurd round
round-done Says keeps number (Build query dimension) state round says = absurd round
round-done Says keeps number (Start query) state round says = absurd round
round-done Says keeps number Cut state round says =
    says-cut Says (first_in state) (end_in state - 1) state.lives.queries number keeps.cut says
round-done Says keeps number (Finish slot) state round says =
    ended-cases (λ queries. Says (life_in queries number)) slot state.lives says
    (λ query ends. says-turned Says query life.Ending life.Answered state.lives.queries number ends (keeps.answered life.Ending) says)
round-done Says keeps number other state round says = says

-- one at which queries find no memory
round-spoilt : (Says : Option Life → Type 0) → RoundKeeps Says → (number : ℕ) (event : Event) (old new : Lives) → IsOfRound event
    → Spoils event old new → Says (life_of old number) → Says (life_of new number)
round-spoilt Says keeps number (Build query dimension) old new round spoils says = absurd round
round-spoilt Says keeps number (Distribute batch) old new round spoils says =
    subst (λ lives. Says (life_of lives number)) (sym spoils.1) (says-spoiled Says spoils.0 old number keeps.spoiled says)
round-spoilt Says keeps number other old new round spoils says = absurd spoils

-- an event of a round keeps it
pub round-says : (Says : Option Life → Type 0) → RoundKeeps Says → (number : ℕ) (event : Event) (old new : State) → IsOfRound event
    → Took event old new → Says (life_of old.lives number) → Says (life_of new.lives number)
round-says Says keeps number event old new round took says = ⊎_elim
    (λ done. subst (λ lives. Says (life_of lives number)) (sym done) (round-done Says keeps number event old round says))
    (λ spoils. round-spoilt Says keeps number event old.lives new.lives round spoils says)
    (taken-lives event old new (inr round) took)

-- an event of an admission that is done
admission-done : (Says : Option Life → Type 0) → AdmissionKeeps Says → (number : ℕ) (event : Event) (state : State) → IsOfAdmission event
    → IsSound state → IsEnabled state event → Says (life_of state.lives number) → Says (life_of (lives_by event state) number)
admission-done Says keeps number (Reserve query slot) state admits sound may says =
    says-waited Says slot state.lives number sound.slots.lives keeps.reserved says
admission-done Says keeps number (Build query dimension) state admits sound may says =
    subst (λ queries. Says (life_in queries number)) (sym (built-queries query dimension state.lives)) says
admission-done Says keeps number (Start query) state admits sound may says =
    let start = first_of state.scan.position (versions_in state) in
    let extent = extent_in state.lives.queries query in
    says-turned Says query life.Building (started start extent) state.lives.queries number may.building (keeps.started start extent) says
admission-done Says keeps number other state admits sound may says = absurd admits

-- one at which a query finds no memory
admission-spoilt : (Says : Option Life → Type 0) → AdmissionKeeps Says → (number : ℕ) (event : Event) (state : State) (new : Lives)
    → IsOfAdmission event → IsEnabled state event → Spoils event state.lives new → Says (life_of state.lives number) → Says (life_of new number)
admission-spoilt Says keeps number (Build query dimension) state new admits may spoils says =
    subst (λ lives. Says (life_of lives number)) (sym spoils)
    (says-turned Says query life.Building life.Spoiled state.lives.queries number may.building keeps.spoiled says)
admission-spoilt Says keeps number (Distribute batch) state new admits may spoils says = absurd admits
admission-spoilt Says keeps number other state new admits may spoils says = absurd spoils

-- an event of an admission keeps it
pub admission-says : (Says : Option Life → Type 0) → AdmissionKeeps Says → (number : ℕ) (event : Event) (old new : State) → IsOfAdmission event
    → IsSound old → Took event old new → Says (life_of old.lives number) → Says (life_of new.lives number)
admission-says Says keeps number event old new admits sound took says = ⊎_elim
    (λ done. subst (λ lives. Says (life_of lives number)) (sym done)
    (admission-done Says keeps number event old admits sound took.enabled says))
    (λ spoils. admission-spoilt Says keeps number event old new.lives admits took.enabled spoils says)
    (taken-lives event old new (inl admits) took)

-- an event of the driver keeps what both keep
pub driven-says : (Says : Option Life → Type 0) → AdmissionKeeps Says → RoundKeeps Says → (number : ℕ) (event : Event) (old new : State)
    → IsDriven event → IsSound old → Took event old new → Says (life_of old.lives number) → Says (life_of new.lives number)
driven-says Says admits round number event old new driven sound took says = ⊎_elim
    (λ one. admission-says Says admits number event old new one sound took says)
    (λ one. round-says Says round number event old new one took says)
    driven
