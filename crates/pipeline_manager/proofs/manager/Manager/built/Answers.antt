use Rattle.std.proofs.Common.{◌≡◌, ◌<◌, sym, subst, ◌∙◌, length, get_or, ap, arith}
use Rattle.std.proofs.lemmas.List.Elements.{All-get_or}
use Rattle.bit_words.specs.Sets.{Has}
use Rattle.pipeline_manager.specs.declared.life.SlotState.TheVariants.{Free}
use Rattle.pipeline_manager.specs.Changes.{with_dimension}
use Rattle.pipeline_manager.specs.Sound.{IsOfFilters}
use Rattle.pipeline_manager.proofs.UsedLemmas.{uses-set}
use Rattle.pipeline_manager.proofs.SoundLemmas.{sound-with_slot}
use Rattle.pipeline_manager.proofs.CallLemmas.{holder-with_dimension, filters-with_dimension}
use Rattle.pipeline_manager.proofs.manager.Manager.built.Goals as goal

pub invariant_of-self : goal.invariant_of-self
invariant_of-self c =
    let slot = c.in-Some.slot in
    let within : slot < length c.self.inside.slots = subst (λ slots. slot < length slots) c.as_slice.ensures c.in-Some.ensures.within in
    let is_filter = subst (λ lives. Has lives.filters c.args.dimension) (sym c.self.view_is) c.requires.can.filters in
    let state = get_or c.self.inside.slots slot Free in
    let same : c.with_dimension-state.result ≡ with_dimension c.args.dimension state =
    c.with_dimension-state.ensures
    ∙ ap (λ slots. with_dimension c.args.dimension (get_or slots slot Free)) c.as_slice-in-Some.ensures in
    rw (c.set_slot.ensures, same) (
      sound-with_slot slot (with_dimension c.args.dimension state) _ within (holder-with_dimension c.args.dimension state)
          (filters-with_dimension c.numbers_go_in_and_out.ensures.put_in c.self.inside.filters c.args.dimension state is_filter
          (All-get_or (IsOfFilters c.self.inside.filters) c.self.inside.slots slot Free within c.self.invariant.0.of_filters))
          c.self.invariant.0,
      uses-set c.self.inside.used c.self.inside.used slot (with_dimension c.args.dimension state) c.self.inside.slots (omega arith)
          c.self.invariant.1.in_range within (λ from free. ap (with_dimension c.args.dimension) free) c.self.invariant.1,
    )
