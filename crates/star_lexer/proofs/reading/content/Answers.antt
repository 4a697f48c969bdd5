use Rattle.std.proofs.Common.{◌≡◌, ℕ, List, IfOk, subst}
use Rattle.star_lexer.proofs.ContentLemmas.{scanned_content}
use Rattle.star_lexer.proofs.reading.content.Goals as goal

pub returns : goal.returns
returns c =
    subst (λ (bytes : List ℕ). IfOk c.scan_content.result (λ text. text.items ≡ bytes)) (scanned_content c.args.quoted.now) c.scan_content.ensures
