use Rattle.std.proofs.Common.{◌<◌, ◌&&◌, ◌||◌, ap, sym, subst, eqb, ◌∙◌}
use Rattle.std.specs.List.{All}
use Rattle.pipeline_manager.specs.LetGo.{AreTold, is_in}
use Rattle.pipeline_manager.proofs.ToldLemmas.{told-more}
use Rattle.pipeline_manager.proofs.old_lives.OldLives.let_go.Goals as goal

pub invariant_of-self : goal.invariant_of-self
invariant_of-self c =
    subst (λ queries. AreTold queries c.put_if.new.self c.put_if-2.new.self) (sym c.push.ensures)
    (told-more c.self.inside.queries c.self.inside.first c.self.inside.second c.put_if.new.self c.put_if-2.new.self c.args.entry
    c.self.invariant c.requires.over
    (subst (λ gone. All (λ other. other.query < c.args.entry.query) gone.queries) (sym c.self.view_is) c.requires.above)
    (λ number. c.put_if.ensures.members number ∙ ap (λ b. is_in c.self.inside.first number || (b && eqb c.args.entry.query number)) c.is_first.ensures)
    (λ number. c.put_if-2.ensures.members number ∙ ap (λ b. is_in c.self.inside.second number || (b && eqb c.args.entry.query number)) c.is_second.ensures))
