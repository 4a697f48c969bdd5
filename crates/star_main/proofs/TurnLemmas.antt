-- What one word does to `clap`'s walk over words, for a command with plain options.
use Rattle.std.proofs.Common.{◌≡◌, ◌∙◌, ℕ, Bool, true, false, cond, List, [], ◌∷◌, length, Option, Some, None, refl, ap, true≢false}
use Rattle.std.specs.Prelude.{chars, codes, drop, encode_utf8, slice_get}
use Rattle.std.specs.Option.{option_map_or}
use Rattle.std.specs.Str.{bytes_eq}
use Rattle.std.proofs.lemmas.Slice.Eq.{bytes_eq-Decides}
use Rattle.clap.specs.Faults.{bundle_fault, bundle_step_fault, flags_fault, flag_word_fault, long_fault, other_fault, settle_fault, short_fault, step_fault, turn_fault, use_fault, word_fault}
use Rattle.clap.specs.Kinds.{Kinds, or_else}
use Rattle.clap.specs.Lexer.{long_of, short_of}
use Rattle.clap.specs.Simple.{Shape}
use Rattle.clap.specs.Walk.{Held, Row, Rule, Step, Waiting, Walk, after_flag, after_step, arg_by_long, idle, reacted, settled, long_met, long_or_other, option, plain_word, positional, short_or_plain, subcommand_met, subcommand_or_other, trailing, next, walked, word_met}
use Rattle.star_main.specs.Rows.{passes}
use Rattle.star_main.specs.Table.{is_among}
use Rattle.star_main.specs.Words.{Text}
use Rattle.star_main.proofs.RuleLemmas.{by_long, by_short, rule, rules_for}
use Rattle.star_main.proofs.WordLemmas.{two_hyphens}

-- the command with options of these names, once it is built
abbrev pub shape_for : List Text → Shape
shape_for names = record {
  name = codes "cjoin";
  aliases = [];
  rules = rules_for names;
  is_plain = true;
  is_leaf = true;
  no_binary_name = true;
  disable_help_flag = true;
  disable_help_subcommand = true;
  disable_version_flag = true;
  propagate_version = false;
  has_version = false;
  has_long_version = false;
  args_override_self = false;
  arg_required_else_help = false;
  subcommand_required = false;
  subcommand_negates_reqs = false;
  is_built = true;
}

-- what is held, and where the walk stands, before any positional
abbrev pub holding : List Row → Option (Text × List Text) → Held
holding rows pending = record { rows = rows; pending = pending; skip = 0 }

abbrev pub at : Held → Waiting → Walk
at h waiting = record { held = h; waiting = waiting; position = 1; is_trailing = false; stopped = None }

pub or_else-none : (kinds : Kinds) → or_else kinds [] ≡ kinds
or_else-none [] = refl
or_else-none (k ∷ kinds) = refl

pub or_else-assoc : (a b c : Kinds) → or_else (or_else a b) c ≡ or_else a (or_else b c)
or_else-assoc [] b c = refl
or_else-assoc (k ∷ kinds) b c = refl

pub or_else-fails : (a b : Kinds) → passes a ≡ false → passes (or_else a b) ≡ false
or_else-fails [] b e = absurd (true≢false e)
or_else-fails (k ∷ kinds) b e = refl

pub same_name : (name : Text) → bytes_eq name name ≡ true
same_name name = (bytes_eq-Decides name name).1 refl

no_subcommand : (waiting : Waiting) (word : Text) → subcommand_met [] waiting word ≡ None
no_subcommand idle word = refl
no_subcommand (option id) word = refl
no_subcommand positional word = refl

module _ (names : List Text) (h : Held) (waiting : Waiting) (word : Text) (spelt : bytes_eq word two_hyphens ≡ false) where
  word_is : (long : Option (Text × Option Text)) → long_of word ≡ long
      → word_met (rules_for names) [] false waiting 1 word h ≡ long_or_other (rules_for names) waiting word long h
  word_is long e =
      ap (λ o. subcommand_or_other (rules_for names) o waiting 1 word h) (no_subcommand waiting word)
      ∙ (λ i. cond (spelt i) (h, trailing 1) (long_or_other (rules_for names) waiting word (e i) h))

  word_fault_is : (long : Option (Text × Option Text)) → long_of word ≡ long
      → word_fault (shape_for names) [] false waiting word h ≡ flag_word_fault (rules_for names) false long word h
  word_fault_is long e =
      ap (λ o. other_fault (shape_for names) o word h) (no_subcommand waiting word)
      ∙ (λ i. cond (spelt i) [] (flag_word_fault (rules_for names) false (e i) word h))

  pub turn_is : (met : Held × Step) (fault : Kinds) → word_met (rules_for names) [] false waiting 1 word h ≡ met
      → word_fault (shape_for names) [] false waiting word h ≡ fault
      → turn_fault (shape_for names) [] (at h waiting) word ≡ or_else fault (step_fault (shape_for names) 1 met.0 met.1)
  turn_is met fault e f = λ i. or_else (f i) (step_fault (shape_for names) 1 (e i).0 (e i).1)

  pub walked_is : (met : Held × Step) → word_met (rules_for names) [] false waiting 1 word h ≡ met
      → walked (rules_for names) [] (at h waiting) word ≡ after_step (rules_for names) word (at h waiting) met.0 met.1
  unfolding walked
  walked_is met e = λ i. after_step (rules_for names) word (at h waiting) (e i).0 (e i).1

  -- a word that fails by itself
  turn_fails : (fault : Kinds) → word_fault (shape_for names) [] false waiting word h ≡ fault → passes fault ≡ false
      → passes (turn_fault (shape_for names) [] (at h waiting) word) ≡ false
  turn_fails fault f e =
      ap passes (turn_is _ fault refl f) ∙ or_else-fails fault _ e

  module _ (name : Text) (attached : Option Text) (long : long_of word ≡ Some (name, attached)) where
    named_fault : (found : Option Rule) → arg_by_long (rules_for names) name ≡ found
        → word_fault (shape_for names) [] false waiting word h ≡ long_fault (rules_for names) false found attached h
    named_fault found e = word_fault_is _ long ∙ ap (λ o. long_fault (rules_for names) false o attached h) e

    named_met : (found : Option Rule) → arg_by_long (rules_for names) name ≡ found
        → word_met (rules_for names) [] false waiting 1 word h
        ≡ after_flag (rules_for names) waiting word (long_met (rules_for names) found attached h).0 (long_met (rules_for names) found attached h).1
    named_met found e =
        word_is _ long
        ∙ ap (λ o. after_flag (rules_for names) waiting word (long_met (rules_for names) o attached h).0 (long_met (rules_for names) o attached h).1) e

    found_as : (known : Bool) → is_among names name ≡ known → arg_by_long (rules_for names) name ≡ cond known (Some (rule name)) None
    found_as known e = by_long names name ∙ ap (λ b. cond b (Some (rule name)) None) e

    -- a name that is unknown
    pub unknown_fails : is_among names name ≡ false → passes (turn_fault (shape_for names) [] (at h waiting) word) ≡ false
    unknown_fails e = turn_fails _ (named_fault None (found_as false e)) refl

    -- an option with something held that fails
    pub held_fails : passes (settle_fault (rules_for names) false h) ≡ false → passes (turn_fault (shape_for names) [] (at h waiting) word) ≡ false
    held_fails bad = go (is_among names name) refl attached refl
      where
        go : (known : Bool) → is_among names name ≡ known → (v : Option Text) → attached ≡ v → passes (turn_fault (shape_for names) [] (at h waiting) word) ≡ false
        go false e v is = unknown_fails e
        go true e (Some w) is =
            turn_fails _ (named_fault (Some (rule name)) (found_as true e) ∙ ap (λ v. long_fault (rules_for names) false (Some (rule name)) v h) is)
            (or_else-fails (settle_fault (rules_for names) false h) _ bad)
        go true e None is =
            turn_fails _ (named_fault (Some (rule name)) (found_as true e) ∙ ap (λ v. long_fault (rules_for names) false (Some (rule name)) v h) is) bad

    module _ (known : is_among names name ≡ true) (value : Text) (is : attached ≡ Some value) where
      attached_met : word_met (rules_for names) [] false waiting 1 word h ≡ (reacted (rules_for names) (rule name) (value ∷ []) h, next idle)
      attached_met =
          named_met (Some (rule name)) (found_as true known)
          ∙ ap (λ v. after_flag (rules_for names) waiting word (long_met (rules_for names) (Some (rule name)) v h).0 (long_met (rules_for names) (Some (rule name)) v h).1) is

      pub attached_turn : turn_fault (shape_for names) [] (at h waiting) word
          ≡ or_else (or_else (settle_fault (rules_for names) false h) (use_fault false (rule name) (value ∷ []) (settled (rules_for names) h).rows)) []
      attached_turn =
          turn_is _ _ attached_met
          (named_fault (Some (rule name)) (found_as true known) ∙ ap (λ v. long_fault (rules_for names) false (Some (rule name)) v h) is)

      pub attached_walk : walked (rules_for names) [] (at h waiting) word ≡ at (reacted (rules_for names) (rule name) (value ∷ []) h) idle
      attached_walk = walked_is _ attached_met

    module _ (known : is_among names name ≡ true) (is : attached ≡ None) where
      alone_met : word_met (rules_for names) [] false waiting 1 word h ≡ (record (settled (rules_for names) h) { pending = Some (name, []) }, next (option name))
      alone_met =
          named_met (Some (rule name)) (found_as true known)
          ∙ ap (λ v. after_flag (rules_for names) waiting word (long_met (rules_for names) (Some (rule name)) v h).0 (long_met (rules_for names) (Some (rule name)) v h).1) is

      pub alone_turn : turn_fault (shape_for names) [] (at h waiting) word ≡ or_else (settle_fault (rules_for names) false h) []
      alone_turn =
          turn_is _ _ alone_met
          (named_fault (Some (rule name)) (found_as true known) ∙ ap (λ v. long_fault (rules_for names) false (Some (rule name)) v h) is)

      pub alone_walk : walked (rules_for names) [] (at h waiting) word ≡ at (record (settled (rules_for names) h) { pending = Some (name, []) }) (option name)
      alone_walk = walked_is _ alone_met

  module _ (short : long_of word ≡ None) where
    -- a word that begins with one hyphen
    pub flags_fail : (first : ℕ) (rest : Text) (x : ℕ) → short_of word ≡ Some (first ∷ rest) → slice_get (chars (first ∷ rest)) 0 ≡ Some x
        → h.skip ≡ 0 → passes (turn_fault (shape_for names) [] (at h waiting) word) ≡ false
    unfolding flags_fault
    flags_fail first rest x flags char skip =
        turn_fails _ (word_fault_is None short
        ∙ ap (λ o. option_map_or (λ text. bundle_fault (rules_for names) false text h) o []) flags
        ∙ (λ i. bundle_step_fault (rules_for names) false (char i) (first ∷ rest) (skip i) (record h { skip = 0 }) (flags_fault (rules_for names) false (length rest)))
        ∙ ap (λ o. short_fault (rules_for names) false o (drop (length (encode_utf8 x)) (first ∷ rest)) (record h { skip = 0 }) (flags_fault (rules_for names) false (length rest) (drop (length (encode_utf8 x)) (first ∷ rest)) 0)) (by_short names x))
        refl

    module _ (other : short_of word ≡ None) where
      pub plain_is : word_met (rules_for names) [] false waiting 1 word h ≡ plain_word (rules_for names) waiting word h
      plain_is = word_is None short ∙ ap (λ o. short_or_plain (rules_for names) waiting word o h) other

      pub plain_fault : word_fault (shape_for names) [] false waiting word h ≡ []
      plain_fault = word_fault_is None short ∙ ap (λ o. option_map_or (λ text. bundle_fault (rules_for names) false text h) o []) other
