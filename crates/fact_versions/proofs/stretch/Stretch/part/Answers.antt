use Rattle.std.proofs.Common.{◌∙◌, ◌≡◌, ◌-◌, ◌+◌, ap, arith, drop, length, sym, take}
use Rattle.fact_versions.proofs.PartLemmas.{length-part, part-part}
use Rattle.fact_versions.proofs.stretch.Stretch.part.Goals as goal

pub overflow_add-self-inside : goal.overflow_add-self-inside
overflow_add-self-inside c =
    let all = length-part c.self.inside.facts.now.items c.self.inside.first (c.self.inside.end - c.self.inside.first) (omega arith) in
    let same = ap length c.self.view_is in omega arith

pub overflow_add-self-inside-2 : goal.overflow_add-self-inside-2
overflow_add-self-inside-2 c =
    let all = length-part c.self.inside.facts.now.items c.self.inside.first (c.self.inside.end - c.self.inside.first) (omega arith) in
    let same = ap length c.self.view_is in omega arith

pub returns : goal.returns
returns c =
    let all = length-part c.self.inside.facts.now.items c.self.inside.first (c.self.inside.end - c.self.inside.first) (omega arith) in
    let same = ap length c.self.view_is in
    let count : c.self.inside.first + c.args.end - (c.self.inside.first + c.args.first) ≡ c.args.end - c.args.first = omega arith in
    c.of.ensures ∙ ap (λ n. take n (drop (c.self.inside.first + c.args.first) c.self.inside.facts.now.items)) count
    ∙ sym (part-part c.self.inside.facts.now.items c.self.inside.first (c.self.inside.end - c.self.inside.first) c.args.first (c.args.end - c.args.first) (omega arith))
    ∙ ap (λ versions. take (c.args.end - c.args.first) (drop c.args.first versions)) c.self.view_is
