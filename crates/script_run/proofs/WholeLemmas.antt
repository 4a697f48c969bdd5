-- All statements that are whole: what was replied to and written, and how that goes on and halts.
use Rattle.script_run.proofs.Words.{◌++◌, ◌<◌, ◌||◌, ◌∙◌, ◌∷◌, ◌≡◌, [], ap, Appends, Appends-nil, Appends-trans, AppendsFront, arith, Bool, false, Halt, HaltsBehind, is_refusal, length, List, list_any, NoMemory, Option, Reading, refl, Replies, RepliesFirst, Reply, Some, StaysFed, Store, subst, sym, Table, take, text_of, text_of_all, true, WriteFault, ℕ}
use Rattle.std.proofs.lemmas.List.Folds.{list_any-append}
use Rattle.script_run.specs.Front.{LeavesToRead, ReadsBetween}
use Rattle.script_run.specs.declared.answer.Answered.{Answered}
use Rattle.script_run.proofs.NextLemmas.{replied-one, replied-then}
use Rattle.script_run.proofs.OnLemmas.{ends-behind, halts-left, text-append, text-one, within-reply}
use Rattle.script_run.proofs.SharedReadLemmas.{reads-first, reads-itself, reads-then}

-- each reply has a text
pub text_some : (reply : Reply) → 0 < length (text_of reply)
text_some (Table name) = omega arith
text_some other = omega arith

pub or_false : (a : Bool) → (a || false) ≡ a
or_false true = refl
or_false false = refl

pub fed_on : (w w' w'' : Reading) → StaysFed w w' → StaysFed w' w'' → StaysFed w w''
fed_on w w' w'' one two = (two.0 ∙ one.0, two.1 ∙ one.1)

-- nothing was read
pub starts : (store : Store) (waits : Reading) (taken : Option (List ℕ)) → Replies store waits store waits false taken taken
starts store waits taken = record {
  statements = [];
  reads = reads-itself waits;
  stays = (refl, refl);
  replies = [];
  are = refl;
  took = Appends-nil taken;
  refusals = refl;
}

-- some statements were read and replied to, and then others
pub follows : (a b c : Store) (w w' w'' : Reading) (refused some : Bool) (taken0 taken taken' : Option (List ℕ))
    → Replies a w b w' refused taken0 taken → Replies b w' c w'' some taken taken' → Replies a w c w'' (refused || some) taken0 taken'
follows a b c w w' w'' refused some taken0 taken taken' way on = record {
  statements = way.statements ++ on.statements;
  reads = reads-then w w' w'' way.statements on.statements way.reads way.stays on.reads;
  stays = fed_on w w' w'' way.stays on.stays;
  replies = way.replies ++ on.replies;
  are = replied-then a b c way.statements on.statements way.replies on.replies way.are on.are;
  took = subst (Appends taken0 taken') (sym (text-append way.replies on.replies))
      (Appends-trans taken0 taken taken' (text_of_all way.replies) (text_of_all on.replies) way.took on.took);
  refusals = ap (λ test. test || some) way.refusals ∙ ap (λ test. list_any is_refusal way.replies || test) on.refusals
      ∙ sym (list_any-append is_refusal way.replies on.replies);
}

-- one statement was, and its reply was written
one_written : (b c : Store) (w' w'' : Reading) (taken taken' : Option (List ℕ)) (answered : Answered) → RepliesFirst b w' c w'' answered
    → StaysFed w' w'' → Appends taken taken' answered.text → Replies b w' c w'' answered.refused taken taken'
one_written b c w' w'' taken taken' answered first stays took = record {
  statements = first.statement ∷ [];
  reads = reads-first w' w'' first.statement first.first;
  stays = stays;
  replies = first.reply ∷ [];
  are = replied-one b c first.statement first.reply first.is;
  took = subst (Appends taken taken') (first.text ∙ sym (text-one first.reply)) took;
  refusals = first.refused ∙ sym (or_false (is_refusal first.reply));
}

pub goes_on : (a b c : Store) (w w' w'' : Reading) (refused : Bool) (taken0 taken taken' : Option (List ℕ)) (answered : Answered)
    → Replies a w b w' refused taken0 taken → RepliesFirst b w' c w'' answered → StaysFed w' w'' → Appends taken taken' answered.text
    → Replies a w c w'' (refused || answered.refused) taken0 taken'
goes_on a b c w w' w'' refused taken0 taken taken' answered way first stays took =
    follows a b c w w' w'' refused answered.refused taken0 taken taken' way (one_written b c w' w'' taken taken' answered first stays took)

-- no whole statement is left
pub ends_whole : (a b c : Store) (w w' w'' : Reading) (refused : Bool) (taken0 taken : Option (List ℕ))
    → Replies a w b w' refused taken0 taken → StaysFed w' w'' → c ≡ b → ReadsBetween w' [] w'' → Replies a w c w'' refused taken0 taken
ends_whole a b c w w' w'' refused taken0 taken way stays is same =
    subst (λ test. Replies a w c w'' test taken0 taken) (or_false refused)
    (follows a b c w w' w'' refused false taken0 taken taken way (record {
      statements = [];
      reads = same;
      stays = stays;
      replies = [];
      are = is;
      took = Appends-nil taken;
      refusals = refl;
    }))

-- The replies halt.

-- behind others
pub halts_behind : (halt : Halt) (a b : Store) (w w' : Reading) (refused : Bool) (taken0 taken taken' : Option (List ℕ))
    → Replies a w b w' refused taken0 taken → HaltsBehind halt b w' taken taken' → HaltsBehind halt a w taken0 taken'
halts_behind halt a b w w' refused taken0 taken taken' way on = record {
  statements = way.statements ++ on.statements;
  behind = on.behind;
  reads = reads-then w w' on.behind way.statements on.statements way.reads way.stays on.reads;
  stays = fed_on w w' on.behind way.stays on.stays;
  replies = way.replies ++ on.replies;
  tables = on.tables;
  are = replied-then a b on.tables way.statements on.statements way.replies on.replies way.are on.are;
  written = text_of_all way.replies ++ on.written;
  took = Appends-trans taken0 taken taken' (text_of_all way.replies) on.written way.took on.took;
  ends = ends-behind (Some halt) way.replies on.replies [] on.written (LeavesToRead on.behind) on.ends;
}

-- no memory was left, and at the end of the input a statement is
pub halts_wanting : (a b : Store) (w w' : Reading) (refused : Bool) (taken0 taken : Option (List ℕ))
    → Replies a w b w' refused taken0 taken → LeavesToRead w' → HaltsBehind NoMemory a w taken0 taken
halts_wanting a b w w' refused taken0 taken way some = halts_behind NoMemory a b w w' refused taken0 taken taken way (record {
  statements = [];
  behind = w';
  reads = reads-itself w';
  stays = (refl, refl);
  replies = [];
  tables = b;
  are = refl;
  written = [];
  took = Appends-nil taken;
  ends = halts-left (LeavesToRead w') some;
})

-- a write failed
pub halts_writing : (a b c : Store) (w w' w'' : Reading) (refused : Bool) (taken0 taken taken' : Option (List ℕ)) (answered : Answered)
    → Replies a w b w' refused taken0 taken → RepliesFirst b w' c w'' answered → StaysFed w' w'' → AppendsFront taken taken' answered.text
    → HaltsBehind WriteFault a w taken0 taken'
halts_writing a b c w w' w'' refused taken0 taken taken' answered way first stays took =
    let front = subst (AppendsFront taken taken') first.text took in
    halts_behind WriteFault a b w w' refused taken0 taken taken' way (record {
      statements = first.statement ∷ [];
      behind = w'';
      reads = reads-first w' w'' first.statement first.first;
      stays = stays;
      replies = first.reply ∷ [];
      tables = c;
      are = replied-one b c first.statement first.reply first.is;
      written = take front.0 (text_of first.reply);
      took = front.2;
      ends = within-reply first.reply front.0 front.1;
    })
