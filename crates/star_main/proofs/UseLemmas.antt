-- What a word that is no option does to `clap`'s walk, and whether a use of an option passes.
use Rattle.std.proofs.Common.{◌≡◌, ◌∙◌, true, false, cond, ◌&&◌, List, [], ◌∷◌, Some, None, ap}
use Rattle.std.specs.Prelude.{nat_lt}
use Rattle.std.specs.Option.{option_map_or}
use Rattle.std.specs.Str.{bytes_eq}
use Rattle.clap.specs.Faults.{positional_fault, stray_fault, settle_fault, turn_fault, use_fault}
use Rattle.clap.specs.Kinds.{or_else}
use Rattle.clap.specs.Lexer.{long_of, short_of}
use Rattle.clap.specs.Walk.{Held, Row, arg_by_id, has_row, idle, settled_rows, used, used_by_id, option, option_word, next, value, walked, word_met}
use Rattle.clap.specs.declared.error.kind.ErrorKind.TheVariants as kind
use Rattle.star_main.specs.Rows.{passes}
use Rattle.star_main.specs.Table.{is_among}
use Rattle.star_main.specs.Words.{Text}
use Rattle.star_main.proofs.RuleLemmas.{by_id, by_index, rule, rules_for}
use Rattle.star_main.proofs.WordLemmas.{two_hyphens}
use Rattle.star_main.proofs.TurnLemmas.{at, holding, plain_fault, plain_is, same_name, shape_for, turn_is, walked_is}

-- a word that is no option, where none waits for its value
pub plain_fails : (names : List Text) (h : Held) (word : Text) → bytes_eq word two_hyphens ≡ false → long_of word ≡ None → short_of word ≡ None
    → passes (turn_fault (shape_for names) [] (at h idle) word) ≡ false
plain_fails names h word spelt long short =
    ap passes (turn_is names h idle word spelt (h, value) [] (plain_is names h idle word spelt long short) (plain_fault names h idle word spelt long short))
    ∙ ap (λ o. passes (option_map_or (λ a. positional_fault (rules_for names) false a h) o (stray_fault (shape_for names)))) (by_index names 1)

-- a word that is no option, where one waits for its value
module _ (names : List Text) (rows : List Row) (name word : Text) (spelt : bytes_eq word two_hyphens ≡ false) (long : long_of word ≡ None)
    (short : short_of word ≡ None) (known : is_among names name ≡ true) where
  value_met : word_met (rules_for names) [] false (option name) 1 word (holding rows (Some (name, []))) ≡ (holding rows (Some (name, word ∷ [])), next idle)
  value_met =
      plain_is names (holding rows (Some (name, []))) (option name) word spelt long short
      ∙ ap (λ o. ((option_word o name word (holding rows (Some (name, [])))).0, next (option_word o name word (holding rows (Some (name, [])))).1))
      (by_id names name ∙ ap (λ b. cond b (Some (rule name)) None) known)
      ∙ (λ i. (holding rows (Some (name, word ∷ [])), next (cond (nat_lt (cond (same_name name i) 1 0) 1) (option name) idle)))

  pub value_turn : turn_fault (shape_for names) [] (at (holding rows (Some (name, []))) (option name)) word ≡ []
  value_turn =
      turn_is names (holding rows (Some (name, []))) (option name) word spelt _ _ value_met
      (plain_fault names (holding rows (Some (name, []))) (option name) word spelt long short)

  pub value_walk : walked (rules_for names) [] (at (holding rows (Some (name, []))) (option name)) word ≡ at (holding rows (Some (name, word ∷ []))) idle
  value_walk = walked_is names (holding rows (Some (name, []))) (option name) word spelt _ value_met

-- a use of an option passes where it is the first
pub use_new : (name text : Text) (rows : List Row) → has_row name rows ≡ false → use_fault false (rule name) (text ∷ []) rows ≡ []
use_new name text rows new = ap (λ b. or_else (cond (b && true) (kind.ArgumentConflict ∷ []) []) []) new

pub use_again : (name text : Text) (rows : List Row) → has_row name rows ≡ true → passes (use_fault false (rule name) (text ∷ []) rows) ≡ false
use_again name text rows old = ap (λ b. passes (or_else (cond (b && true) (kind.ArgumentConflict ∷ []) []) [])) old

-- what is held settles as a use of the option, and fails without a value
module _ (names : List Text) (rows : List Row) (name : Text) (known : is_among names name ≡ true) where
  held_rule : arg_by_id (rules_for names) name ≡ Some (rule name)
  held_rule = by_id names name ∙ ap (λ b. cond b (Some (rule name)) None) known

  pub settle_use : (values : List Text) → settle_fault (rules_for names) false (holding rows (Some (name, values))) ≡ use_fault false (rule name) values rows
  settle_use values = ap (λ o. option_map_or (λ a. use_fault false a values rows) o []) held_rule

  pub settle_rows : (values : List Text) → settled_rows (rules_for names) (Some (name, values)) rows ≡ used (rule name) values rows
  settle_rows values = ap (λ o. used_by_id o values rows) held_rule

  pub waiting_fails : passes (settle_fault (rules_for names) false (holding rows (Some (name, [])))) ≡ false
  waiting_fails = ap passes (settle_use [])
