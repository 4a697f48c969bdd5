-- How a list of replies is read, reply by reply.
use Rattle.std.proofs.Common.{◌≡◌, ℕ, ◌<◌, ◌≤◌, ◌^◌, List, [], ◌∷◌, ◌++◌, length, drop, All, Option, Some, None, refl, ap, sym, subst, ◌∙◌, arith, length-append, append_assoc, lit<, codes, decimal}
use Rattle.std.specs.Prelude.{◌≢◌, flat_map, IfSome}
use Rattle.std.specs.List.{sum_by}
use Rattle.std.proofs.lemmas.List.{append-nil, drop_at}
use Rattle.std.proofs.lemmas.List.Elements.{All-head, All-nil, All-push, All-tail}
use Rattle.std.proofs.lemmas.List.Sums.{sum_by-cons}
use Rattle.star_values.specs.Cell.{cell_text}
use Rattle.star_values.specs.declared.cell.Cell.{Cell}
use Rattle.reply_text.specs.Text.{more_text, refusal_text, row_text, text_of, text_of_all}
use Rattle.reply_text.specs.Formed.{IsWellFormed}
use Rattle.reply_text.specs.declared.reply.Reply.{Reply}
use Rattle.reply_text.specs.declared.reply.Reply.TheVariants.{Table, Commit, Answer, Overflow, Memory, Refused, Waited}
use Rattle.make_load.specs.Summary.{answered_rows}

-- bytes are read as replies up to the rest, and each list of replies whose text the bytes are goes on so
pub record IsReadTo (bytes : List ℕ) (front : List Reply) (rest : List ℕ) : Type 0 where
  pub formed : All IsWellFormed front
  pub text : bytes ≡ text_of_all front ++ rest
  pub only : (list : List Reply) → All IsWellFormed list → bytes ≡ text_of_all list
      → (more : List Reply) × (All IsWellFormed more) × (rest ≡ text_of_all more) × (list ≡ front ++ more)

row-long : (row : List Cell) → 0 < length (row_text row)
row-long [] = lit< tt
row-long (cell ∷ cells) = omega (arith, length-append (cell_text cell ++ more_text cells) (codes "\n"))

rows-long : (rows : List (List Cell)) → length rows ≤ length (flat_map row_text rows)
rows-long [] = omega arith
rows-long (row ∷ rows) = omega (arith, length-append (row_text row) (flat_map row_text rows), row-long row, rows-long rows)

ends-long : (text : List ℕ) (byte : ℕ) → 0 < length (text ++ byte ∷ [])
ends-long text byte = omega (arith, length-append text (byte ∷ []))

-- a reply has a byte, and no more rows than bytes
text_of-long : (reply : Reply) → (0 < length (text_of reply)) × (answered_rows reply ≤ length (text_of reply))
text_of-long (Table name) = (ends-long (codes "table " ++ name) 10, omega arith)
text_of-long (Commit number rows) = (ends-long (codes "commit " ++ decimal number ++ codes " rows " ++ decimal rows) 10, omega arith)
text_of-long (Answer snapshot rows) =
    let line = codes "answer " ++ decimal snapshot ++ codes " rows " ++ decimal (length rows) in
    let some = ends-long line 10 in (
      omega (arith, some, length-append (line ++ codes "\n") (flat_map row_text rows)),
      omega (arith, rows-long rows, length-append (line ++ codes "\n") (flat_map row_text rows)),
    )
text_of-long (Overflow snapshot) = (ends-long (codes "overflow " ++ decimal snapshot) 10, omega arith)
text_of-long Memory = (lit< tt, omega arith)
text_of-long (Refused refusal) = (ends-long (codes "refused " ++ refusal_text refusal) 10, omega arith)
text_of-long Waited = (lit< tt, omega arith)

-- no more rows than bytes
pub rows_within : (replies : List Reply) → sum_by answered_rows replies ≤ length (text_of_all replies)
rows_within [] = omega arith
rows_within (reply ∷ replies) =
    omega (arith, sum_by-cons answered_rows reply replies, length-append (text_of reply) (text_of_all replies), rows_within replies, (text_of-long reply).1)

pub rows_fit : (replies : List Reply) (text : List ℕ) → text ≡ text_of_all replies → length text < 2 ^ 64 → sum_by answered_rows replies < 2 ^ 64
rows_fit replies text e fits = omega (arith, rows_within replies, ap length e)

text_of_all-append : (front more : List Reply) → text_of_all (front ++ more) ≡ text_of_all front ++ text_of_all more
text_of_all-append [] more = refl
text_of_all-append (reply ∷ front) more =
    ap (λ text. text_of reply ++ text) (text_of_all-append front more) ∙ sym (append_assoc (text_of reply) (text_of_all front) (text_of_all more))

-- no reply is read yet
pub none_read : (bytes : List ℕ) → IsReadTo bytes [] bytes
none_read bytes = record {
  formed = All-nil IsWellFormed;
  text = refl;
  only = λ list formed e. (list, formed, e, refl);
}

-- what `read_reply` says of a reply that it found
pub record IsFound (rest : List ℕ) (reply : Reply) (len : ℕ) : Type 0 where
  pub formed : IsWellFormed reply
  pub length_is : len ≡ length (text_of reply)
  pub there : (more : List ℕ) × (rest ≡ text_of reply ++ more)
  pub only : (other : Reply) (more : List ℕ) → IsWellFormed other → rest ≡ text_of other ++ more → reply ≡ other

-- the bytes behind the reply
behind_it : (rest : List ℕ) (reply : Reply) (len : ℕ) → IsFound rest reply len → (more : List ℕ) → rest ≡ text_of reply ++ more → drop len rest ≡ more
behind_it rest reply len h more e = ap (drop len) e ∙ drop_at (text_of reply) more len (sym h.length_is)

goes_on : (bytes : List ℕ) (front : List Reply) (rest : List ℕ) (reply : Reply) (len : ℕ) → IsFound rest reply len → 0 < length rest
    → (list more : List Reply) → All IsWellFormed more → rest ≡ text_of_all more → list ≡ front ++ more
    → (most : List Reply) × (All IsWellFormed most) × (drop len rest ≡ text_of_all most) × (list ≡ front ++ reply ∷ [] ++ most)
goes_on bytes front rest reply len h some list [] formed e same = absurd (omega (arith, ap length e))
goes_on bytes front rest reply len h some list (other ∷ most) formed e same =
    let is : reply ≡ other = h.only other (text_of_all most) (All-head IsWellFormed other most formed) e in
    let here : rest ≡ text_of reply ++ text_of_all most = e ∙ ap (λ r. text_of r ++ text_of_all most) (sym is) in (
      most,
      All-tail IsWellFormed other most formed,
      behind_it rest reply len h (text_of_all most) here,
      same ∙ ap (λ r. front ++ r ∷ most) (sym is) ∙ sym (append_assoc front (reply ∷ []) most),
    )

-- one more reply is read
one_more : (bytes : List ℕ) (front : List Reply) (rest : List ℕ) (reply : Reply) (len : ℕ) → IsReadTo bytes front rest → IsFound rest reply len
    → 0 < length rest → IsReadTo bytes (front ++ reply ∷ []) (drop len rest)
one_more bytes front rest reply len so_far h some = record {
  formed = All-push IsWellFormed front reply so_far.formed h.formed;
  text =
      so_far.text ∙ ap (λ r. text_of_all front ++ r) (h.there.1 ∙ ap (λ m. text_of reply ++ m) (sym (behind_it rest reply len h h.there.0 h.there.1)))
      ∙ sym (append_assoc (text_of_all front) (text_of reply) (drop len rest))
      ∙ ap (λ t. text_of_all front ++ t ++ drop len rest) (sym (append-nil (text_of reply)))
      ∙ ap (λ t. t ++ drop len rest) (sym (text_of_all-append front (reply ∷ [])));
  only = λ list formed e.
      let was = so_far.only list formed e in
      goes_on bytes front rest reply len h some list was.0 was.1 was.2 was.3;
}

-- there is no list where no reply stands at the front of the rest
pub none_at : (bytes : List ℕ) (front : List Reply) (rest : List ℕ) → IsReadTo bytes front rest → 0 < length rest
    → ((reply : Reply) (more : List ℕ) → IsWellFormed reply → rest ≢ text_of reply ++ more)
    → (list : List Reply) → All IsWellFormed list → bytes ≢ text_of_all list
none_at bytes front rest so_far some none list formed e =
    let was = so_far.only list formed e in
    stops was.0 was.1 was.2
  where
    stops : (more : List Reply) → All IsWellFormed more → rest ≡ text_of_all more → ⊥
    stops [] h is = omega (arith, ap length is)
    stops (reply ∷ more) h is = none reply (text_of_all more) (All-head IsWellFormed reply more h) is

-- all is read
pub all_read : (bytes : List ℕ) (front : List Reply) → IsReadTo bytes front [] → (list : List Reply) → All IsWellFormed list → bytes ≡ text_of_all list → front ≡ list
all_read bytes front so_far list formed e =
    let was = so_far.only list formed e in
    sym (was.3 ∙ ap (λ m. front ++ m) (empty was.0 was.2) ∙ append-nil front)
  where
    empty : (more : List Reply) → [] ≡ text_of_all more → more ≡ []
    empty [] is = refl
    empty (reply ∷ more) is = absurd (omega (arith, ap length is, length-append (text_of reply) (text_of_all more), (text_of-long reply).0))

-- the clauses of `read_reply` where it finds one
pub found_is : (rest : List ℕ) (found : Option (Reply × ℕ)) (reply : Reply) (len : ℕ) → found ≡ Some (reply, len)
    → IfSome found (λ f. IsWellFormed f.0 × (f.1 ≡ length (text_of f.0)) × ((more : List ℕ) × (rest ≡ text_of f.0 ++ more)))
    → ((other : Reply) (more : List ℕ) → IsWellFormed other → rest ≡ text_of other ++ more → found ≡ Some (other, length (text_of other)))
    → IsFound rest reply len
found_is rest found reply len e some back =
    let fact : IsWellFormed reply × (len ≡ length (text_of reply)) × ((more : List ℕ) × (rest ≡ text_of reply ++ more)) =
    subst (λ o. IfSome o (λ f. IsWellFormed f.0 × (f.1 ≡ length (text_of f.0)) × ((more : List ℕ) × (rest ≡ text_of f.0 ++ more)))) e some in
    record {
      formed = fact.0;
      length_is = fact.1;
      there = fact.2;
      only = λ other more formed here.
          let said = back other more formed here in
          let whole : Reply × ℕ = (reply, len) in
          let same : whole ≡ (other, length (text_of other)) = cc (e, said) in
          ap (λ f. f.0) same;
    }

-- and where it finds none
pub none_is : (rest : List ℕ) (found : Option (Reply × ℕ)) → found ≡ None
    → ((other : Reply) (more : List ℕ) → IsWellFormed other → rest ≡ text_of other ++ more → found ≡ Some (other, length (text_of other)))
    → (other : Reply) (more : List ℕ) → IsWellFormed other → rest ≢ text_of other ++ more
none_is rest found e back other more formed here =
    cc (e, back other more formed here)

-- the same, with the list and the rest by equations
pub one_more_at : (bytes : List ℕ) (front new : List Reply) (rest behind : List ℕ) (reply : Reply) (len : ℕ) → IsReadTo bytes front rest → IsFound rest reply len
    → 0 < length rest → new ≡ front ++ reply ∷ [] → behind ≡ drop len rest → IsReadTo bytes new behind
one_more_at bytes front new rest behind reply len so_far h some is_new is_behind =
    rw (is_new, is_behind) (one_more bytes front rest reply len so_far h some)
