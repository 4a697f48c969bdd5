use Rattle.std.proofs.Common.{◌<◌, ◌/◌, ◌&&◌, ◌||◌, ap, sym, subst, eqb, length, ◌∙◌}
use Rattle.pipeline_manager.specs.LetGo.{is_in}
use Rattle.pipeline_manager.proofs.ToldLemmas.{put-in_if}
use Rattle.pipeline_manager.proofs.number_set.NumberSet.put_if.Goals as goal

pub returns-clause-members : goal.returns-clause-members
returns-clause-members c = λ other.
    let within = subst (λ words. c.args.number / 64 < length words) (sym c.self.view_is) c.requires in
    ap (λ words. is_in words other) c.put_if.ensures
    ∙ put-in_if c.self.inside.words.items c.args.number c.args.wanted other within
    ∙ ap (λ words. is_in words other || (c.args.wanted && eqb c.args.number other)) c.self.view_is
