-- A reply is read from the front, and what is read there is one.
use Rattle.std.proofs.Common.{◌≡◌, ℕ, ◌+◌, ◌-◌, ◌<◌, ◌≤◌, ◌^◌, List, ◌++◌, length, drop, Option, Some, None, option_map, flat_map, refl, ap, sym, subst, ◌∙◌, arith, append_assoc, length-append}
use Rattle.std.specs.Prelude.{codes}
use Rattle.std.specs.Option.{option_and_then, option_or}
use Rattle.std.specs.Fmt.{decimal}
use Rattle.star_values.specs.declared.cell.Cell.{Cell}
use Rattle.star_values.specs.declared.refusal.Refusal.{Refusal}
use Rattle.reply_text.specs.declared.reply.Reply.{Reply}
use Rattle.reply_text.specs.declared.reply.Reply.TheVariants.{Table, Commit, Answer, Overflow, Memory, Refused, Waited}
use Rattle.reply_text.specs.Text.{refusal_text, row_text, text_of}
use Rattle.reply_text.specs.Formed.{IsTableName, IsWellFormed}
use Rattle.reply_text.specs.Reading.{Found, answer_at, behind, commit_at, ended_by, even_rows_at, line_at, name_at, number_then, numbers_at, overflow_at, reason_at, refused_at, reply_at, syntax_at, table_at, table_name_at, word_at}
use Rattle.reply_text.proofs.PartLemmas.{behind-exact, behind-sound, ended_by-exact, ended_by-sound, map_some, or_some, then_some}
use Rattle.reply_text.proofs.NumberLemmas.{number_then-exact, number_then-sound}
use Rattle.reply_text.proofs.NameLemmas.{name_at-exact, name_at-sound}
use Rattle.reply_text.proofs.RefusalLemmas.{refusal_at-exact, refusal_at-sound}
use Rattle.reply_text.proofs.CellLemmas.{AreValues}
use Rattle.reply_text.proofs.RowLemmas.{even_rows-exact, even_rows-sound}

-- a reply stands at the front
abbrev pub IsReplyAt : List ℕ → Reply × List ℕ → Type 0
IsReplyAt bytes out = IsWellFormed out.0 × (bytes ≡ text_of out.0 ++ out.1)

-- the parts of a text of five parts, in front of a rest
five : (a b c d e rest : List ℕ) → (a ++ b ++ c ++ d ++ e) ++ rest ≡ a ++ (b ++ (c ++ (d ++ (e ++ rest))))
five a b c d e rest = simp (append_assoc) refl

six : (a b c d e f rest : List ℕ) → (a ++ b ++ c ++ d ++ e ++ f) ++ rest ≡ a ++ (b ++ (c ++ (d ++ (e ++ (f ++ rest)))))
six a b c d e f rest = simp (append_assoc) refl

three : (a b c rest : List ℕ) → (a ++ b ++ c) ++ rest ≡ a ++ (b ++ (c ++ rest))
three a b c rest = simp (append_assoc) refl

numbers_at-exact : (word : List ℕ) (m n : ℕ) (rest : List ℕ) → m < 2 ^ 64 → n < 2 ^ 64
    → numbers_at word (codes " rows ") (word ++ (decimal m ++ (codes " rows " ++ (decimal n ++ (codes "\n" ++ rest))))) ≡ Some (m, n, rest)
unfolding numbers_at
numbers_at-exact word m n rest low small =
    let first = number_then-exact (codes " rows ") m (decimal n ++ (codes "\n" ++ rest)) low refl in
    let second = number_then-exact (codes "\n") n rest small refl in
    ap (option_and_then (λ b. option_and_then (λ f. option_map (λ g. (f.0, g.0, g.1)) (number_then (codes "\n") f.1)) (number_then (codes " rows ") b)))
    (behind-exact word (decimal m ++ (codes " rows " ++ (decimal n ++ (codes "\n" ++ rest)))))
    ∙ ap (option_and_then (λ f. option_map (λ g. (f.0, g.0, g.1)) (number_then (codes "\n") f.1))) first
    ∙ ap (option_map (λ g. (m, g.0, g.1))) second

record AreNumbersAt (word bytes : List ℕ) (out : ℕ × ℕ × List ℕ) : Type 0 where
  pub first : out.0 < 2 ^ 64
  pub second : out.1 < 2 ^ 64
  pub text : bytes ≡ word ++ (decimal out.0 ++ (codes " rows " ++ (decimal out.1 ++ (codes "\n" ++ out.2))))

numbers_at-sound : (word bytes : List ℕ) (out : ℕ × ℕ × List ℕ) → numbers_at word (codes " rows ") bytes ≡ Some out → AreNumbersAt word bytes out
unfolding numbers_at
numbers_at-sound word bytes out e =
    let b = then_some (λ b. option_and_then (λ f. option_map (λ g. (f.0, g.0, g.1)) (number_then (codes "\n") f.1)) (number_then (codes " rows ") b)) (behind word bytes) out e in
    let f = then_some (λ f. option_map (λ g. (f.0, g.0, g.1)) (number_then (codes "\n") f.1)) (number_then (codes " rows ") b.0) out b.2 in
    let g = map_some (λ g. (f.0.0, g.0, g.1)) (number_then (codes "\n") f.0.1) out f.2 in
    let first = number_then-sound (codes " rows ") b.0 f.0 f.1 in
    let second = number_then-sound (codes "\n") f.0.1 g.0 g.1 in
    subst (AreNumbersAt word bytes) g.2 (record {
      first = first.0;
      second = second.0;
      text = behind-sound word bytes b.0 b.1 ∙ ap (λ r. word ++ r) (first.1 ∙ ap (λ r. decimal f.0.0 ++ (codes " rows " ++ r)) second.1);
    })

table_at-exact : (name rest : List ℕ) → IsTableName name → table_at (text_of (Table name) ++ rest) ≡ Some (Table name, rest)
unfolding table_at table_name_at
table_at-exact name rest is =
    let found = name_at-exact name (codes "\n" ++ rest) is refl in
    ap table_at (three (codes "table ") name (codes "\n") rest)
    ∙ ap (λ found. option_map (λ f. (Table f.0, f.1)) (option_and_then (λ b. ended_by (codes "\n") (name_at b)) found)) (behind-exact (codes "table ") (name ++ (codes "\n" ++ rest)))
    ∙ ap (option_map (λ f. (Table f.0, f.1))) (ended_by-exact (codes "\n") rest name (name_at (name ++ (codes "\n" ++ rest))) found)

table_at-sound : (bytes : List ℕ) (out : Reply × List ℕ) → table_at bytes ≡ Some out → IsReplyAt bytes out
unfolding table_at table_name_at
table_at-sound bytes out e =
    let f = map_some (λ f. (Table f.0, f.1)) (option_and_then (λ b. ended_by (codes "\n") (name_at b)) (behind (codes "table ") bytes)) out e in
    let b = then_some (λ b. ended_by (codes "\n") (name_at b)) (behind (codes "table ") bytes) f.0 f.1 in
    let name = name_at-sound b.0 (f.0.0, codes "\n" ++ f.0.1) (ended_by-sound (codes "\n") (name_at b.0) f.0 b.2) in
    subst (IsReplyAt bytes) f.2
    (name.0, behind-sound (codes "table ") bytes b.0 b.1 ∙ ap (λ r. codes "table " ++ r) name.1 ∙ sym (three (codes "table ") f.0.0 (codes "\n") f.0.1))

commit_at-exact : (m n : ℕ) (rest : List ℕ) → m < 2 ^ 64 → n < 2 ^ 64 → commit_at (text_of (Commit m n) ++ rest) ≡ Some (Commit m n, rest)
unfolding commit_at
commit_at-exact m n rest low small =
    ap commit_at (five (codes "commit ") (decimal m) (codes " rows ") (decimal n) (codes "\n") rest)
    ∙ ap (option_map (λ f. (Commit f.0 f.1, f.2))) (numbers_at-exact (codes "commit ") m n rest low small)

commit_at-sound : (bytes : List ℕ) (out : Reply × List ℕ) → commit_at bytes ≡ Some out → IsReplyAt bytes out
unfolding commit_at
commit_at-sound bytes out e =
    let f = map_some (λ f. (Commit f.0 f.1, f.2)) (numbers_at (codes "commit ") (codes " rows ") bytes) out e in
    let is = numbers_at-sound (codes "commit ") bytes f.0 f.1 in
    subst (IsReplyAt bytes) f.2 ((is.first, is.second), is.text ∙ sym (five (codes "commit ") (decimal f.0.0) (codes " rows ") (decimal f.0.1) (codes "\n") f.0.2))

overflow_at-exact : (n : ℕ) (rest : List ℕ) → n < 2 ^ 64 → overflow_at (text_of (Overflow n) ++ rest) ≡ Some (Overflow n, rest)
unfolding overflow_at
overflow_at-exact n rest low =
    ap overflow_at (three (codes "overflow ") (decimal n) (codes "\n") rest)
    ∙ ap (option_and_then (λ b. option_map (λ f. (Overflow f.0, f.1)) (number_then (codes "\n") b))) (behind-exact (codes "overflow ") (decimal n ++ (codes "\n" ++ rest)))
    ∙ ap (option_map (λ f. (Overflow f.0, f.1))) (number_then-exact (codes "\n") n rest low refl)

overflow_at-sound : (bytes : List ℕ) (out : Reply × List ℕ) → overflow_at bytes ≡ Some out → IsReplyAt bytes out
unfolding overflow_at
overflow_at-sound bytes out e =
    let b = then_some (λ b. option_map (λ f. (Overflow f.0, f.1)) (number_then (codes "\n") b)) (behind (codes "overflow ") bytes) out e in
    let f = map_some (λ f. (Overflow f.0, f.1)) (number_then (codes "\n") b.0) out b.2 in
    let is = number_then-sound (codes "\n") b.0 f.0 f.1 in
    subst (IsReplyAt bytes) f.2
    (is.0, behind-sound (codes "overflow ") bytes b.0 b.1 ∙ ap (λ r. codes "overflow " ++ r) is.1 ∙ sym (three (codes "overflow ") (decimal f.0.0) (codes "\n") f.0.1))

refused_at-exact : (refusal : Refusal) (rest : List ℕ) → IsWellFormed (Refused refusal) → refused_at (text_of (Refused refusal) ++ rest) ≡ Some (Refused refusal, rest)
unfolding refused_at
refused_at-exact refusal rest is =
    ap refused_at (three (codes "refused ") (refusal_text refusal) (codes "\n") rest)
    ∙ ap (option_and_then (λ b. option_map (λ f. (Refused f.0, f.1)) (option_or (syntax_at b) (reason_at b)))) (behind-exact (codes "refused ") (refusal_text refusal ++ (codes "\n" ++ rest)))
    ∙ ap (option_map (λ f. (Refused f.0, f.1))) (refusal_at-exact refusal rest is)

refused_at-sound : (bytes : List ℕ) (out : Reply × List ℕ) → refused_at bytes ≡ Some out → IsReplyAt bytes out
unfolding refused_at
refused_at-sound bytes out e =
    let b = then_some (λ b. option_map (λ f. (Refused f.0, f.1)) (option_or (syntax_at b) (reason_at b))) (behind (codes "refused ") bytes) out e in
    let f = map_some (λ f. (Refused f.0, f.1)) (option_or (syntax_at b.0) (reason_at b.0)) out b.2 in
    let is = refusal_at-sound b.0 f.0 f.1 in
    subst (IsReplyAt bytes) f.2
    (is.0, behind-sound (codes "refused ") bytes b.0 b.1 ∙ ap (λ r. codes "refused " ++ r) is.1 ∙ sym (three (codes "refused ") (refusal_text f.0.0) (codes "\n") f.0.1))

word_at-sound : (word bytes : List ℕ) (reply : Reply) (out : Reply × List ℕ) → IsWellFormed reply → text_of reply ≡ word → word_at word reply bytes ≡ Some out → IsReplyAt bytes out
word_at-sound word bytes reply out is text e =
    let f = map_some (λ rest. (reply, rest)) (behind word bytes) out e in
    subst (IsReplyAt bytes) f.2 (is, behind-sound word bytes f.0 f.1 ∙ ap (λ t. t ++ f.0) (sym text))

-- the reader of an answer's rows behind its line
abbrev answer_from : ℕ × ℕ × List ℕ → Found Reply
answer_from f = option_map (λ g. (Answer f.0 g.0, g.1)) (even_rows_at f.1 f.2)

answer_at-exact : AreValues → (snapshot : ℕ) (rows : List (List Cell)) (rest : List ℕ) → IsWellFormed (Answer snapshot rows) → answer_at (text_of (Answer snapshot rows) ++ rest) ≡ Some (Answer snapshot rows, rest)
unfolding answer_at
answer_at-exact values snapshot rows rest is =
    let more = flat_map row_text rows ++ rest in
    ap answer_at (six (codes "answer ") (decimal snapshot) (codes " rows ") (decimal (length rows)) (codes "\n") (flat_map row_text rows) rest)
    ∙ ap (option_and_then answer_from) (numbers_at-exact (codes "answer ") snapshot (length rows) more is.0 is.1.fits)
    ∙ ap (option_map (λ g. (Answer snapshot g.0, g.1))) (even_rows-exact values rows rest is.1)

answer_at-sound : AreValues → (bytes : List ℕ) (out : Reply × List ℕ) → answer_at bytes ≡ Some out → IsReplyAt bytes out
unfolding answer_at
answer_at-sound values bytes out e =
    let f = then_some answer_from (numbers_at (codes "answer ") (codes " rows ") bytes) out e in
    let g = map_some (λ g. (Answer f.0.0 g.0, g.1)) (even_rows_at f.0.1 f.0.2) out f.2 in
    let line = numbers_at-sound (codes "answer ") bytes f.0 f.1 in
    let rows = even_rows-sound values f.0.1 f.0.2 g.0 g.1 in
    let text = line.text
    ∙ ap (λ r. codes "answer " ++ (decimal f.0.0 ++ (codes " rows " ++ (decimal f.0.1 ++ (codes "\n" ++ r))))) rows.text
    ∙ ap (λ n. codes "answer " ++ (decimal f.0.0 ++ (codes " rows " ++ (decimal n ++ (codes "\n" ++ (flat_map row_text g.0.0 ++ g.0.1)))))) (sym rows.counted)
    ∙ sym (six (codes "answer ") (decimal f.0.0) (codes " rows ") (decimal (length g.0.0)) (codes "\n") (flat_map row_text g.0.0) g.0.1) in
    let fits : length g.0.0 < 2 ^ 64 = subst (λ n. n < 2 ^ 64) (sym rows.counted) line.second in
    subst (IsReplyAt bytes) g.2 ((line.first, record { fits = fits; even = rows.even }), text)

line_at-sound : (bytes : List ℕ) (out : Reply × List ℕ) → line_at bytes ≡ Some out → IsReplyAt bytes out
unfolding line_at
line_at-sound bytes out e =
    or_some (commit_at bytes) _ out e (commit_at-sound bytes out) (λ e.
    or_some (overflow_at bytes) _ out e (overflow_at-sound bytes out) (λ e.
    or_some (refused_at bytes) _ out e (refused_at-sound bytes out) (λ e.
    or_some (word_at (codes "memory\n") Memory bytes) (word_at (codes "waited\n") Waited bytes) out e
    (word_at-sound (codes "memory\n") bytes Memory out tt refl) (word_at-sound (codes "waited\n") bytes Waited out tt refl))))

-- what is read is a reply, and stands at the front
pub reply_at-sound : AreValues → (bytes : List ℕ) (out : Reply × List ℕ) → reply_at bytes ≡ Some out → IsReplyAt bytes out
unfolding reply_at
reply_at-sound values bytes out e =
    or_some (table_at bytes) (option_or (answer_at bytes) (line_at bytes)) out e (table_at-sound bytes out) (λ e.
    or_some (answer_at bytes) (line_at bytes) out e (answer_at-sound values bytes out) (line_at-sound bytes out))

-- no other reader reads what begins with another byte
abbrev IsOther : List ℕ → Type 0
IsOther bytes = (table_at bytes ≡ None) × (answer_at bytes ≡ None)

other_commit : (rest : List ℕ) → IsOther (codes "c" ++ rest)
unfolding table_at table_name_at answer_at numbers_at behind
other_commit rest = (refl, refl)

other_overflow : (rest : List ℕ) → IsOther (codes "o" ++ rest) × (commit_at (codes "o" ++ rest) ≡ None)
unfolding table_at table_name_at answer_at commit_at numbers_at behind
other_overflow rest = ((refl, refl), refl)

other_refused : (rest : List ℕ) → IsOther (codes "r" ++ rest) × (commit_at (codes "r" ++ rest) ≡ None) × (overflow_at (codes "r" ++ rest) ≡ None)
unfolding table_at table_name_at answer_at commit_at overflow_at numbers_at behind
other_refused rest = ((refl, refl), refl, refl)

other_answer : (rest : List ℕ) → table_at (codes "a" ++ rest) ≡ None
unfolding table_at table_name_at behind
other_answer rest = refl

plain_memory : (rest : List ℕ) → reply_at (codes "memory\n" ++ rest) ≡ Some (Memory, rest)
unfolding reply_at table_at table_name_at answer_at line_at commit_at overflow_at refused_at numbers_at behind
plain_memory rest = refl

plain_waited : (rest : List ℕ) → reply_at (codes "waited\n" ++ rest) ≡ Some (Waited, rest)
unfolding reply_at table_at table_name_at answer_at line_at commit_at overflow_at refused_at numbers_at behind
plain_waited rest = refl

-- a reply at the front is read
pub reply_at-exact : AreValues → (reply : Reply) (rest : List ℕ) → IsWellFormed reply → reply_at (text_of reply ++ rest) ≡ Some (reply, rest)
unfolding reply_at line_at
reply_at-exact values (Table name) rest is = rw (table_at-exact name rest is) refl
reply_at-exact values (Commit m n) rest is =
    let other = other_commit (drop 1 (text_of (Commit m n)) ++ rest) in
    rw (other.0, other.1, commit_at-exact m n rest is.0 is.1) refl
reply_at-exact values (Answer snapshot rows) rest is =
    rw (other_answer (drop 1 (text_of (Answer snapshot rows)) ++ rest), answer_at-exact values snapshot rows rest is) refl
reply_at-exact values (Overflow n) rest is =
    let other = other_overflow (drop 1 (text_of (Overflow n)) ++ rest) in
    rw (other.0.0, other.0.1, other.1, overflow_at-exact n rest is) refl
reply_at-exact values Memory rest is = plain_memory rest
reply_at-exact values (Refused refusal) rest is =
    let other = other_refused (drop 1 (text_of (Refused refusal)) ++ rest) in
    rw (other.0.0, other.0.1, other.1, other.2, refused_at-exact refusal rest is) refl
reply_at-exact values Waited rest is = plain_waited rest

-- one text at the front is one reply
pub one_spelling : AreValues → (reply other : Reply) (rest more : List ℕ) → IsWellFormed reply → IsWellFormed other → text_of reply ++ rest ≡ text_of other ++ more
    → (reply ≡ other) × (rest ≡ more)
one_spelling values reply other rest more is also e =
    let same : ◌≡◌ {A = Option (Reply × List ℕ)} (Some (reply, rest)) (Some (other, more)) =
    sym (reply_at-exact values reply rest is) ∙ ap reply_at e ∙ reply_at-exact values other more also in
    (ap reply_from same, ap rest_from same)
  where
    reply_from : Option (Reply × List ℕ) → Reply
    reply_from None = reply
    reply_from (Some found) = found.0

    rest_from : Option (Reply × List ℕ) → List ℕ
    rest_from None = rest
    rest_from (Some found) = found.1

-- nothing is read where no reply stands at the front
pub none_at : AreValues → (bytes : List ℕ) → reply_at bytes ≡ None → (reply : Reply) (rest : List ℕ) → IsWellFormed reply → bytes ≡ text_of reply ++ rest → ⊥
none_at values bytes e reply rest is text =
    let found : ◌≡◌ {A = Option (Reply × List ℕ)} None (Some (reply, rest)) = sym e ∙ ap reply_at text ∙ reply_at-exact values reply rest is in cc

-- what a reader finds is told with its length
pub some_at : AreValues → (bytes : List ℕ) (reply : Reply) (rest : List ℕ) → reply_at bytes ≡ Some (reply, rest)
    → IsWellFormed reply × (length bytes - length rest ≡ length (text_of reply)) × ((more : List ℕ) × (bytes ≡ text_of reply ++ more))
some_at values bytes reply rest e =
    let is = reply_at-sound values bytes (reply, rest) e in
    let len : length bytes ≡ length (text_of reply) + length rest = ap length is.1 ∙ length-append (text_of reply) rest in
    (is.0, omega arith, (rest, is.1))

pub within : AreValues → (bytes : List ℕ) (reply : Reply) (rest : List ℕ) → reply_at bytes ≡ Some (reply, rest) → length rest ≤ length bytes
within values bytes reply rest e =
    let is = reply_at-sound values bytes (reply, rest) e in
    let len : length bytes ≡ length (text_of reply) + length rest = ap length is.1 ∙ length-append (text_of reply) rest in omega arith

-- the reply that stands at the front is found, with its length
pub back_some : AreValues → (bytes : List ℕ) (found : Reply) (after : List ℕ) → reply_at bytes ≡ Some (found, after)
    → (reply : Reply) (rest : List ℕ) → IsWellFormed reply → bytes ≡ text_of reply ++ rest
    → ◌≡◌ {A = Option (Reply × ℕ)} (Some (found, length bytes - length after)) (Some (reply, length (text_of reply)))
back_some values bytes found after e reply rest is text =
    let there = reply_at-sound values bytes (found, after) e in
    let same = one_spelling values found reply after rest there.0 is (sym there.1 ∙ text) in
    let len = (some_at values bytes found after e).1 in
    ap (λ n. Some (found, n)) len ∙ ap (λ r. Some (r, length (text_of r))) same.0

pub back_none : AreValues → (bytes : List ℕ) → reply_at bytes ≡ None → (reply : Reply) (rest : List ℕ) → IsWellFormed reply → bytes ≡ text_of reply ++ rest
    → ◌≡◌ {A = Option (Reply × ℕ)} None (Some (reply, length (text_of reply)))
back_none values bytes e reply rest is text = absurd (none_at values bytes e reply rest is text)
