use Rattle.std.proofs.Common.{◌≡◌, ◌<◌, sym, subst, ◌∙◌, length, get_or, ap, arith}
use Rattle.std.proofs.lemmas.List.Elements.{All-get_or}
use Rattle.pipeline_manager.specs.declared.life.SlotState.TheVariants.{Free}
use Rattle.pipeline_manager.specs.Changes.{without_dimension}
use Rattle.pipeline_manager.specs.Sound.{IsOfFilters}
use Rattle.pipeline_manager.proofs.UsedLemmas.{uses-set}
use Rattle.pipeline_manager.proofs.SoundLemmas.{sound-with_slot}
use Rattle.pipeline_manager.proofs.CallLemmas.{holder-without_dimension, filters-without_dimension}
use Rattle.pipeline_manager.proofs.manager.Manager.cleared.Goals as goal

pub invariant_of-self : goal.invariant_of-self
invariant_of-self c =
    let within : c.args.slot < length c.self.inside.slots = subst (λ lives. c.args.slot < length lives.slots) (sym c.self.view_is) c.requires.within in
    let state = get_or c.self.inside.slots c.args.slot Free in
    let same : c.without_dimension-state.result ≡ without_dimension c.args.dimension state =
    c.without_dimension-state.ensures
    ∙ ap (λ slots. without_dimension c.args.dimension (get_or slots c.args.slot Free)) c.as_slice.ensures in
    rw (c.set_slot.ensures, same) (
      sound-with_slot c.args.slot (without_dimension c.args.dimension state) _ within (holder-without_dimension c.args.dimension state)
          (filters-without_dimension c.numbers_go_in_and_out.ensures.taken_out c.self.inside.filters c.args.dimension state
          (All-get_or (IsOfFilters c.self.inside.filters) c.self.inside.slots c.args.slot Free within c.self.invariant.0.of_filters))
          c.self.invariant.0,
      uses-set c.self.inside.used c.self.inside.used c.args.slot (without_dimension c.args.dimension state) c.self.inside.slots (omega arith)
          c.self.invariant.1.in_range within (λ from free. ap (without_dimension c.args.dimension) free) c.self.invariant.1,
    )
