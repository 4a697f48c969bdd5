-- A row is read up to its line feed, and rows one after the other.
use Rattle.std.proofs.Common.{◌≡◌, ℕ, zero, suc, ◌+◌, ◌-◌, ◌<◌, ◌==◌, Bool, true, false, List, [], ◌∷◌, ◌++◌, length, drop, Some, None, flat_map, refl, ap, sym, subst, ◌∙◌, arith, append_assoc, append-nil, length-append}
use Rattle.std.specs.Prelude.{codes, if◌then◌else◌}
use Rattle.std.specs.List.{All, list_all}
use Rattle.std.proofs.Math.Seq.{drop-cons}
use Rattle.std.proofs.lemmas.Bool.{and_parts}
use Rattle.std.proofs.lemmas.Bool.Decides.{Decides-eqb}
use Rattle.std.proofs.lemmas.List.Elements.{All-nil, All-cons, All-head, All-tail}
use Rattle.star_values.specs.Cell.{cell_text}
use Rattle.star_values.specs.declared.cell.Cell.{Cell}
use Rattle.reply_text.specs.Text.{row_text}
use Rattle.reply_text.specs.Formed.{AreRows, IsCell, IsRow}
use Rattle.reply_text.specs.Reading.{Found, are_even, cells_in, ended_cell_at, even_rows_at, row_at, rows_in, with_front}
use Rattle.reply_text.proofs.PartLemmas.{if_some, map_some, then_some}
use Rattle.reply_text.proofs.CellLemmas.{AreValues, end_byte, ended_cell-exact, ended_cell-sound}

-- a row of a first cell and others, in front of what stands behind it
abbrev line : Cell → List Cell → List ℕ → List ℕ
line cell [] rest = cell_text cell ++ (10 ∷ rest)
line cell (next ∷ cells) rest = cell_text cell ++ (44 ∷ line next cells rest)

line_is : (cell : Cell) (cells : List Cell) (rest : List ℕ) → row_text (cell ∷ cells) ++ rest ≡ line cell cells rest
line_is cell [] rest =
    append_assoc (cell_text cell ++ []) (codes "\n") rest ∙ ap (λ text. text ++ (10 ∷ rest)) (append-nil (cell_text cell))
line_is cell (next ∷ cells) rest =
    simp (append_assoc) (ap (λ more. cell_text cell ++ (44 ∷ more)) (simp (append_assoc) at (line_is next cells rest)))

line_long : (cell : Cell) (cells : List Cell) (rest : List ℕ) → length cells < length (line cell cells rest)
line_long cell [] rest = omega (arith, length-append (cell_text cell) (10 ∷ rest))
line_long cell (next ∷ cells) rest =
    let more = line_long next cells rest in omega (arith, length-append (cell_text cell) (44 ∷ line next cells rest))

cells_in-exact : AreValues → (most : List ℕ) (cell : Cell) (cells : List Cell) (rest : List ℕ) → All IsCell (cell ∷ cells) → length cells < length most
    → cells_in most (line cell cells rest) ≡ Some (cell ∷ cells, rest)
cells_in-exact values [] cell cells rest all short = absurd (omega arith)
cells_in-exact values (byte ∷ most) cell [] rest all short =
    rw (ended_cell-exact values cell true rest (All-head IsCell cell [] all)) refl
cells_in-exact values (byte ∷ most) cell (next ∷ cells) rest all short =
    let more = cells_in-exact values most next cells rest (All-tail IsCell cell (next ∷ cells) all) (omega arith) in
    rw (ended_cell-exact values cell false (line next cells rest) (All-head IsCell cell (next ∷ cells) all), more) refl

-- a row stands at the front
pub record IsRowAt (bytes : List ℕ) (out : List Cell × List ℕ) : Type 0 where
  pub some : 0 < length out.0
  pub cells : All IsCell out.0
  pub text : bytes ≡ row_text out.0 ++ out.1

one_cell : (cell : Cell) (rest : List ℕ) → IsCell cell → IsRowAt (line cell [] rest) (cell ∷ [], rest)
one_cell cell rest is = record { some = omega arith; cells = All-cons IsCell cell [] is (All-nil IsCell); text = sym (line_is cell [] rest) }

front_cell : (cell : Cell) (bytes : List ℕ) (out : List Cell × List ℕ) → IsCell cell → IsRowAt bytes out → IsRowAt (cell_text cell ++ (44 ∷ bytes)) (cell ∷ out.0, out.1)
front_cell cell bytes ([], rest) is more = let some = more.some in absurd (omega arith)
front_cell cell bytes (next ∷ cells, rest) is more = record {
  some = omega arith;
  cells = All-cons IsCell cell (next ∷ cells) is more.cells;
  text = ap (λ behind. cell_text cell ++ (44 ∷ behind)) (more.text ∙ line_is next cells rest) ∙ sym (line_is cell (next ∷ cells) rest);
}

cells_in-sound : AreValues → (most bytes : List ℕ) (out : List Cell × List ℕ) → cells_in most bytes ≡ Some out → IsRowAt bytes out
cells_in-sound values [] bytes out e = absurd (cc)
cells_in-sound values (byte ∷ most) bytes out e =
    let f = then_some (λ f. if f.1 then Some (f.0 ∷ [], f.2) else with_front (f.0 ∷ []) (cells_in most f.2)) (ended_cell_at bytes) out e in
    let is = ended_cell-sound values bytes f.0 f.1 in
    subst (λ b. IsRowAt b out) (sym is.1)
    (cells_by f.0.0 f.0.1 f.0.2 (cells_in most f.0.2) out is.0 (cells_in-sound values most f.0.2) f.2)
  where
    cells_by : (cell : Cell) (last : Bool) (rest : List ℕ) (more : Found (List Cell)) (out : List Cell × List ℕ) → IsCell cell
        → ((o : List Cell × List ℕ) → more ≡ Some o → IsRowAt rest o)
        → (if last then Some (cell ∷ [], rest) else with_front (cell ∷ []) more) ≡ Some out → IsRowAt (cell_text cell ++ (end_byte last ∷ rest)) out
    cells_by cell true rest more out is behind e =
        let same : (cell ∷ [], rest) ≡ out = grind (arith, e) in subst (IsRowAt (line cell [] rest)) same (one_cell cell rest is)
    cells_by cell false rest more out is behind e =
        let g = map_some (λ g. (cell ∷ g.0, g.1)) more out e in
        subst (IsRowAt (cell_text cell ++ (44 ∷ rest))) g.2 (front_cell cell rest g.0 is (behind g.0 g.1))

-- a row of at least one cell, each of which there is
pub record IsFull (row : List Cell) : Type 0 where
  pub some : 0 < length row
  pub cells : All IsCell row

row_at-exact : AreValues → (row : List Cell) (rest : List ℕ) → IsFull row → row_at (row_text row ++ rest) ≡ Some (row, rest)
unfolding row_at
row_at-exact values [] rest full = let some = full.some in absurd (omega arith)
row_at-exact values (cell ∷ cells) rest full =
    rw (line_is cell cells rest) (cells_in-exact values (line cell cells rest) cell cells rest full.cells (line_long cell cells rest))

row_at-sound : AreValues → (bytes : List ℕ) (out : List Cell × List ℕ) → row_at bytes ≡ Some out → IsRowAt bytes out
unfolding row_at
row_at-sound values bytes out e = cells_in-sound values bytes bytes out e

pub rows_in-exact : AreValues → (rows : List (List Cell)) (rest : List ℕ) → All IsFull rows → rows_in (length rows) (flat_map row_text rows ++ rest) ≡ Some (rows, rest)
rows_in-exact values [] rest all = refl
rows_in-exact values (row ∷ rows) rest all =
    let first = row_at-exact values row (flat_map row_text rows ++ rest) (All-head IsFull row rows all) in
    let more = rows_in-exact values rows rest (All-tail IsFull row rows all) in
    rw (append_assoc (row_text row) (flat_map row_text rows) rest, first, more) refl

-- so many rows stand at the front
pub record AreRowsAt (count : ℕ) (bytes : List ℕ) (out : List (List Cell) × List ℕ) : Type 0 where
  pub counted : length out.0 ≡ count
  pub full : All IsFull out.0
  pub text : bytes ≡ flat_map row_text out.0 ++ out.1

front_row : (row : List Cell) (count : ℕ) (bytes rest : List ℕ) (out : List (List Cell) × List ℕ) → IsRowAt bytes (row, rest) → AreRowsAt count rest out → AreRowsAt (suc count) bytes (row ∷ out.0, out.1)
front_row row count bytes rest out first more = record {
  counted = let counted = more.counted in omega arith;
  full = All-cons IsFull row out.0 (record { some = first.some; cells = first.cells }) more.full;
  text = first.text ∙ ap (λ behind. row_text row ++ behind) more.text ∙ sym (append_assoc (row_text row) (flat_map row_text out.0) out.1);
}

pub rows_in-sound : AreValues → (count : ℕ) (bytes : List ℕ) (out : List (List Cell) × List ℕ) → rows_in count bytes ≡ Some out → AreRowsAt count bytes out
rows_in-sound values zero bytes out e =
    let same : ([], bytes) ≡ out = grind (arith, e) in
    subst (λ (o : List (List Cell) × List ℕ). AreRowsAt 0 bytes o) same (record { counted = refl; full = All-nil IsFull; text = refl })
rows_in-sound values (suc count) bytes out e =
    let f = then_some (λ f. with_front (f.0 ∷ []) (rows_in count f.1)) (row_at bytes) out e in
    let g = map_some (λ g. (f.0.0 ∷ g.0, g.1)) (rows_in count f.0.1) out f.2 in
    subst (AreRowsAt (suc count) bytes) g.2
    (front_row f.0.0 count bytes f.0.1 g.0 (row_at-sound values bytes f.0 f.1) (rows_in-sound values count f.0.1 g.0 g.1))

have_width : (width : ℕ) (rows : List (List Cell)) → list_all (λ other. length other == width) rows ≡ true → All IsFull rows → All (IsRow width) rows
have_width width [] same full = All-nil (IsRow width)
have_width width (row ∷ rows) same full =
    let parts = and_parts (length row == width) (list_all (λ other. length other == width) rows) same in
    let first = All-head IsFull row rows full in
    All-cons (IsRow width) row rows (record { wide = (Decides-eqb (length row) width).0 parts.0; cells = first.cells })
    (have_width width rows parts.1 (All-tail IsFull row rows full))

of_width : (width : ℕ) (rows : List (List Cell)) → All (IsRow width) rows → list_all (λ other. length other == width) rows ≡ true
of_width width [] all = refl
of_width width (row ∷ rows) all =
    let same : (length row == width) ≡ true = (Decides-eqb (length row) width).1 (All-head (IsRow width) row rows all).wide in
    rw (same, of_width width rows (All-tail (IsRow width) row rows all)) refl

full_of : (width : ℕ) (rows : List (List Cell)) → 0 < width → All (IsRow width) rows → All IsFull rows
full_of width [] some all = All-nil IsFull
full_of width (row ∷ rows) some all =
    let first = All-head (IsRow width) row rows all in
    let wide = first.wide in
    All-cons IsFull row rows (record { some = omega arith; cells = first.cells }) (full_of width rows some (All-tail (IsRow width) row rows all))

even : (rows : List (List Cell)) → are_even rows ≡ true → All IsFull rows → (width : ℕ) × (0 < width) × All (IsRow width) rows
unfolding are_even
even [] h full = (1, omega arith, All-nil (IsRow 1))
even (row ∷ rows) h full =
    let first = All-head IsFull row rows full in (
      length row,
      first.some,
      All-cons (IsRow (length row)) row rows (record { wide = refl; cells = first.cells }) (have_width (length row) rows h (All-tail IsFull row rows full)),
    )

even_of : (width : ℕ) (rows : List (List Cell)) → All (IsRow width) rows → are_even rows ≡ true
unfolding are_even
even_of width [] all = refl
even_of width (row ∷ rows) all =
    let wide = (All-head (IsRow width) row rows all).wide in rw wide (of_width width rows (All-tail (IsRow width) row rows all))

pub even_rows-exact : AreValues → (rows : List (List Cell)) (rest : List ℕ) → AreRows rows → even_rows_at (length rows) (flat_map row_text rows ++ rest) ≡ Some (rows, rest)
unfolding even_rows_at
even_rows-exact values rows rest h =
    let width = h.even.0 in
    let found = rows_in-exact values rows rest (full_of width rows h.even.1 h.even.2) in
    rw (found, even_of width rows h.even.2) refl

-- rows stand at the front, all with as many cells
pub record AreEvenAt (count : ℕ) (bytes : List ℕ) (out : List (List Cell) × List ℕ) : Type 0 where
  pub counted : length out.0 ≡ count
  pub even : (width : ℕ) × (0 < width) × All (IsRow width) out.0
  pub text : bytes ≡ flat_map row_text out.0 ++ out.1

pub even_rows-sound : AreValues → (count : ℕ) (bytes : List ℕ) (out : List (List Cell) × List ℕ) → even_rows_at count bytes ≡ Some out → AreEvenAt count bytes out
unfolding even_rows_at
even_rows-sound values count bytes out e =
    let f = then_some (λ f. if are_even f.0 then Some f else None) (rows_in count bytes) out e in
    let found = if_some (are_even f.0.0) f.0 out f.2 in
    let is = rows_in-sound values count bytes f.0 f.1 in
    subst (AreEvenAt count bytes) found.1 (record { counted = is.counted; even = even f.0.0 found.0 is.full; text = is.text })

front_joined : {A : Type 0} (front : List A) (x : A) (found : Found (List A)) → with_front (front ++ x ∷ []) found ≡ with_front front (with_front (x ∷ []) found)
front_joined front x None = refl
front_joined front x (Some f) = ap (λ all. Some (all, f.1)) (append_assoc front (x ∷ []) f.0)

-- a loop that reads cells: one cell more
pub one_more_cell : (front now : List Cell) (bytes : List ℕ) (place : ℕ) (rest behind : List ℕ) (cell : Cell) (all : Found (List Cell))
    → with_front front (cells_in (drop place bytes) rest) ≡ all → place < length bytes → ended_cell_at rest ≡ Some (cell, false, behind) → now ≡ front ++ cell ∷ []
    → with_front now (cells_in (drop (place + 1) bytes) behind) ≡ all
one_more_cell front now bytes place rest behind cell all h within e is_now =
    let next : place + 1 ≡ suc place = omega arith in
    let step = rw (drop-cons bytes place 0 within, e) at h in
    rw (is_now, next) (front_joined front cell (cells_in (drop (suc place) bytes) behind) ∙ step)

-- a loop that reads cells: the last cell
pub last_cell : (front now : List Cell) (bytes : List ℕ) (place : ℕ) (rest behind : List ℕ) (cell : Cell) (all : Found (List Cell))
    → with_front front (cells_in (drop place bytes) rest) ≡ all → place < length bytes → ended_cell_at rest ≡ Some (cell, true, behind) → now ≡ front ++ cell ∷ []
    → Some (now, behind) ≡ all
last_cell front now bytes place rest behind cell all h within e is_now =
    let step = rw (drop-cons bytes place 0 within, e) at h in rw is_now step

-- a loop that reads cells: there is no cell
pub no_cell : (front : List Cell) (bytes : List ℕ) (place : ℕ) (rest : List ℕ) (all : Found (List Cell))
    → with_front front (cells_in (drop place bytes) rest) ≡ all → place < length bytes → ended_cell_at rest ≡ None → None ≡ all
no_cell front bytes place rest all h within e = rw (drop-cons bytes place 0 within, e) at h

-- a loop that reads rows: one row more
pub one_more_row : (front now : List (List Cell)) (count place : ℕ) (bytes behind : List ℕ) (row : List Cell) (all : Found (List (List Cell)))
    → with_front front (rows_in (count - place) bytes) ≡ all → place < count → row_at bytes ≡ Some (row, behind) → now ≡ front ++ row ∷ []
    → with_front now (rows_in (count - (place + 1)) behind) ≡ all
one_more_row front now count place bytes behind row all h within e is_now =
    let left : count - place ≡ suc (count - (place + 1)) = omega arith in
    let step = rw (left, e) at h in
    rw is_now (front_joined front row (rows_in (count - (place + 1)) behind) ∙ step)
