-- Where no batch is lent, no event passes a batch that is.
use Rattle.std.proofs.Common.{◌≡◌, ◌≢◌, ℕ, List, [], refl, sym, subst}
use Rattle.std.proofs.lemmas.List.Elements.{All-nil}
use Rattle.std.specs.Prelude.{All}
use Rattle.core_state.specs.declared.event.Event.{Event}
use Rattle.core_state.specs.declared.event.Event.TheVariants.{Give, Submit}
use Rattle.event_core.specs.Lent.{IsAtHome}

-- where there are no workers with batches, an event is at home
home-of-none : (event : Event) → IsAtHome event []
home-of-none (Give worker) = All-nil (λ (other : ℕ). other ≢ worker)
home-of-none (Submit seat statement) = λ _. refl
home-of-none other = tt

-- so it is where the workers with batches are none
pub unlent-home : (event : Event) (lent : List ℕ) → lent ≡ [] → IsAtHome event lent
unlent-home event lent none = subst (IsAtHome event) (sym none) (home-of-none event)

-- and so is each event of a list
pub unlent-all-home : (events : List Event) (lent : List ℕ) → lent ≡ [] → All (λ event. IsAtHome event lent) events
unlent-all-home events lent none at event within = unlent-home _ lent none
