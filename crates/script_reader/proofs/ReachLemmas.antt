-- Whole lines, one after another.
use Rattle.std.proofs.Common.{◌≡◌, ℕ, ◌+◌, Bool, true, false, List, [], ◌∷◌, ◌++◌, length, take, drop, refl, sym, ap, subst, ◌∙◌, arith, append-nil, append_assoc, take-append-drop}
use Rattle.std.specs.Prelude.{filter}
use Rattle.std.specs.List.{concat}
use Rattle.std.proofs.Math.Seq.{take-add}
use Rattle.std.proofs.lemmas.List.{drop-drop, take_all, drop_all}
use Rattle.std.proofs.lemmas.List.Elements.{All-nil, All-push}
use Rattle.std.proofs.lemmas.List.Folds.{concat-append}
use Rattle.script_reader.specs.Script.{lines_of, whole_lines, line_text, clipped, is_no_statement, is_dot_line, statements_of}
use Rattle.script_reader.specs.Coming.{StaysLine, StaysPassed}
use Rattle.script_reader.specs.Reach.{AreLines, BeginNone, TakesLines, TakesBehind, Opens, Closes}
use Rattle.script_reader.specs.declared.statement.Statement.{Statement}
use Rattle.script_reader.specs.declared.closing.Closing.TheVariants.{Dot, Input}
use Rattle.script_reader.proofs.LineLemmas.{concat-lines_of}

-- no bytes are no lines
AreLines-none : (ended : Bool) (s : List ℕ) → AreLines ended s 0 []
AreLines-none ended s = record { bytes = refl; first = refl }

-- lines and then lines
pub AreLines-append : (ended : Bool) (s : List ℕ) (a b : ℕ) (front behind : List (List ℕ))
    → AreLines ended s a front → AreLines ended (drop a s) b behind → AreLines ended s (a + b) (front ++ behind)
AreLines-append ended s a b front behind f g =
    record {
      bytes = take-add a b s ∙ ap (λ bytes. bytes ++ take b (drop a s)) f.bytes ∙ ap (λ bytes. concat front ++ bytes) g.bytes
          ∙ sym (concat-append front behind);
      first = f.first ∙ ap (λ lines. front ++ lines) g.first ∙ sym (append_assoc front behind (whole_lines ended (drop b (drop a s))))
          ∙ ap (λ rest. (front ++ behind) ++ whole_lines ended rest) (drop-drop b a s);
    }

-- the first line is one
AreLines-one : (ended : Bool) (s : List ℕ) (n : ℕ) → whole_lines ended s ≡ take n s ∷ whole_lines ended (drop n s)
    → AreLines ended s n (take n s ∷ [])
AreLines-one ended s n first = record { bytes = sym (append-nil (take n s)); first = first }

-- a line further there is one line more
AreLines-more : (ended : Bool) (s : List ℕ) (len n : ℕ) (lines : List (List ℕ))
    → whole_lines ended (drop len s) ≡ take n (drop len s) ∷ whole_lines ended (drop n (drop len s))
    → AreLines ended s len lines → AreLines ended s (len + n) (lines ++ take n (drop len s) ∷ [])
AreLines-more ended s len n lines first sofar =
    AreLines-append ended s len n lines (take n (drop len s) ∷ []) sofar (AreLines-one ended (drop len s) n first)

filter_true : {A : Type 0} (xs : List A) → filter (λ _. true) xs ≡ xs
filter_true [] = refl
filter_true (x ∷ xs) = ap (λ ys. x ∷ ys) (filter_true xs)

-- where the input has ended and no line is left, no byte is left
none_left : (s : List ℕ) → whole_lines true s ≡ [] → s ≡ []
none_left s none = sym (concat-lines_of s) ∙ ap concat (sym (filter_true (lines_of s)) ∙ none)

-- where no line is left behind these, all bytes are these lines
AreLines-all : (s : List ℕ) (len : ℕ) (lines : List (List ℕ)) → whole_lines true (drop len s) ≡ []
    → AreLines true s len lines → AreLines true s (length s) lines
AreLines-all s len lines none sofar =
    let nothing : drop len s ≡ [] = none_left (drop len s) none in
    let all : take len s ≡ s =
    sym (append-nil (take len s)) ∙ ap (λ rest. take len s ++ rest) (sym nothing) ∙ take-append-drop len s in
    record {
      bytes = take_all (length s) s (omega arith) ∙ sym all ∙ sofar.bytes;
      first = sofar.first ∙ ap (λ rest. lines ++ whole_lines true rest) (nothing ∙ sym (drop_all (length s) s (omega arith)));
    }

-- the lines up to there begin no statement
pub record Passes (ended : Bool) (script : List ℕ) (end : ℕ) : Type 0 where
  pub passed : List (List ℕ)
  pub lines : AreLines ended script end passed
  pub begin_none : BeginNone passed

-- a line that begins none is passed over
passed_line : (ended : Bool) (before behind line : List ℕ) → whole_lines ended before ≡ line ∷ whole_lines ended behind
    → is_no_statement (line_text line) ≡ true → statements_of ended before ≡ statements_of ended behind
passed_line ended before behind line first none = rw (first, none) refl

-- no statement begins in the lines up to there nor in the next
pub passed_more : (ended : Bool) (s : List ℕ) (end n : ℕ)
    → whole_lines ended (drop end s) ≡ take n (drop end s) ∷ whole_lines ended (drop n (drop end s))
    → is_no_statement (line_text (take n (drop end s))) ≡ true → statements_of ended (drop end s) ≡ statements_of ended s
    → statements_of ended (drop (end + n) s) ≡ statements_of ended s
passed_more ended s end n first none sofar =
    rw (sym (drop-drop n end s)) (sym (passed_line ended (drop end s) (drop n (drop end s)) (take n (drop end s)) first none) ∙ sofar)

-- nor does one whatever still comes
pub stays_passed : (ended : Bool) (s : List ℕ) (end n : ℕ) → StaysLine ended (drop end s) n
    → is_no_statement (line_text (take n (drop end s))) ≡ true → StaysPassed ended s end → StaysPassed ended s (end + n)
stays_passed ended s end n line none sofar not_ended more last =
    rw (sym (drop-drop n end s))
    (sym (passed_line last (drop end s ++ more) (drop n (drop end s) ++ more) (take n (drop end s)) (line not_ended more last) none)
    ∙ sofar not_ended more last)

-- none is passed yet
pub Passes-none : (ended : Bool) (s : List ℕ) → Passes ended s 0
Passes-none ended s =
    record { passed = []; lines = AreLines-none ended s; begin_none = All-nil (λ line. is_no_statement (line_text line) ≡ true) }

-- a line that begins none is passed too
pub Passes-more : (ended : Bool) (s : List ℕ) (end n : ℕ)
    → whole_lines ended (drop end s) ≡ take n (drop end s) ∷ whole_lines ended (drop n (drop end s))
    → is_no_statement (line_text (take n (drop end s))) ≡ true → Passes ended s end → Passes ended s (end + n)
Passes-more ended s end n first none sofar =
    record {
      passed = sofar.passed ++ take n (drop end s) ∷ [];
      lines = AreLines-more ended s end n sofar.passed first sofar.lines;
      begin_none = All-push (λ line. is_no_statement (line_text line) ≡ true) sofar.passed (take n (drop end s)) sofar.begin_none none;
    }

-- the next line is the statement's own
pub Opens-next : (ended : Bool) (s text : List ℕ) (end n : ℕ)
    → whole_lines ended (drop end s) ≡ take n (drop end s) ∷ whole_lines ended (drop n (drop end s))
    → text ≡ line_text (take n (drop end s)) → Passes ended s end → Opens ended s text (end + n)
Opens-next ended s text end n first is_text sofar =
    record {
      passed = sofar.passed;
      own = take n (drop end s);
      lines = AreLines-more ended s end n sofar.passed first sofar.lines;
      begin_none = sofar.begin_none;
      is_own = sym is_text;
    }

-- a statement with a block takes the lines up to and with its own, and those of its block
pub TakesLines-block : (ended : Bool) (s text : List ℕ) (statement : Statement) (end len : ℕ)
    → Opens ended s text end → statement.line ≡ clipped text → TakesBehind ended (drop end s) statement.block len
    → TakesLines ended s statement (end + len)
TakesLines-block ended s text statement end len opens line behind =
    record {
      passed = opens.passed;
      own = opens.own;
      behind = behind.0;
      lines = subst (AreLines ended s (end + len)) (append_assoc opens.passed (opens.own ∷ []) behind.0)
          (AreLines-append ended s end len (opens.passed ++ opens.own ∷ []) behind.0 opens.lines behind.1);
      begin_none = opens.begin_none;
      is_own = ap clipped opens.is_own ∙ sym line;
      are_behind = behind.2;
    }

-- the bytes up to there are lines
abbrev pub HasLines : Bool → List ℕ → ℕ → Type 0
HasLines ended s len = (lines : List (List ℕ)) × AreLines ended s len lines

-- no line is in the block yet
pub HasLines-none : (ended : Bool) (s : List ℕ) → HasLines ended s 0
HasLines-none ended s = ([], AreLines-none ended s)

-- a line further they are lines too
pub HasLines-more : (ended : Bool) (s : List ℕ) (len n : ℕ)
    → whole_lines ended (drop len s) ≡ take n (drop len s) ∷ whole_lines ended (drop n (drop len s))
    → HasLines ended s len → HasLines ended s (len + n)
HasLines-more ended s len n first sofar =
    (sofar.0 ++ take n (drop len s) ∷ [], AreLines-more ended s len n sofar.0 first sofar.1)

-- the next line is the dot line
pub Closes-dot : (ended : Bool) (s : List ℕ) (len n : ℕ)
    → whole_lines ended (drop len s) ≡ take n (drop len s) ∷ whole_lines ended (drop n (drop len s))
    → is_dot_line (take n (drop len s)) ≡ true → HasLines ended s len → Closes ended s (Dot len (len + n))
Closes-dot ended s len n first dot sofar =
    (sofar.0, take n (drop len s), AreLines-more ended s len n sofar.0 first sofar.1, sym sofar.1.bytes, dot)

-- the input ends behind these lines
pub Closes-input : (ended : Bool) (s : List ℕ) (len : ℕ) → ended ≡ true → whole_lines ended (drop len s) ≡ [] → HasLines ended s len
    → Closes ended s Input
Closes-input true s len e none sofar = (sofar.0, AreLines-all s len sofar.0 none sofar.1)
Closes-input false s len e none sofar = cc
