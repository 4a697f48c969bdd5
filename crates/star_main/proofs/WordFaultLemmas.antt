-- The first fault of words, read on from a place.
use Rattle.std.proofs.Common.{◌≡◌, ◌∙◌, ℕ, ◌+◌, ◌<◌, ◌≤◌, [], ◌∷◌, ◌++◌, List, length, map, take, drop, Option, Result, ap, sym}
use Rattle.std.specs.Prelude.{String, option_map, string_bytes}
use Rattle.std.specs.List.{slice_index_or}
use Rattle.std.proofs.lemmas.List.{drop_all, drop_more, map-append, take_more}
use Rattle.star_main.specs.Words.{Text}
use Rattle.star_main.specs.WordFault.{after_word, fault_from, fault_or}
use Rattle.star_main.specs.declared.word_fault.PlacedOption.{PlacedOption}
use Rattle.star_main.specs.declared.word_fault.WordFault.{WordFault}
use Rattle.star_main.specs.declared.word_fault.WordFault.TheVariants.{NoValue}

module _ {Z : Type 0} (words : List (String Z)) where
  -- the first fault from a place on
  abbrev pub fault_behind : ℕ → Option PlacedOption → Option WordFault
  fault_behind place waiting = fault_from (map string_bytes (take place words)) (map string_bytes (drop place words)) waiting

  word_decides : (place : ℕ) (waiting : Option PlacedOption) (word : String Z) → place < length words
      → fault_behind place waiting
      ≡ fault_or (fault_behind (place + 1)) (after_word (map string_bytes (take place words)) waiting (string_bytes (slice_index_or words place word)))
  unfolding fault_from
  word_decides place waiting word lt =
      let first = slice_index_or words place word in
      let more : map string_bytes (take place words) ++ string_bytes first ∷ [] ≡ map string_bytes (take (place + 1) words) =
      sym (ap (map string_bytes) (take_more words place word lt) ∙ map-append string_bytes (take place words) (first ∷ [])) in
      ap (λ rest. fault_from (map string_bytes (take place words)) (map string_bytes rest) waiting) (drop_more words place word lt)
      ∙ ap
      (λ before.
      fault_or (fault_from before (map string_bytes (drop (place + 1) words))) (after_word (map string_bytes (take place words)) waiting (string_bytes first)))
      more

  -- what is made of the word at the place decides
  pub fault_behind-word : (place : ℕ) (waiting : Option PlacedOption) (word : String Z) (text : Text) (made : Result (Option PlacedOption) WordFault)
      → place < length words → word ≡ slice_index_or words place word → text ≡ string_bytes word
      → made ≡ after_word (map string_bytes (take place words)) waiting text → fault_behind place waiting ≡ fault_or (fault_behind (place + 1)) made
  fault_behind-word place waiting word text made lt at is e =
      word_decides place waiting word lt
      ∙ ap (fault_or (fault_behind (place + 1))) (sym (e ∙ ap (after_word (map string_bytes (take place words)) waiting) (is ∙ ap string_bytes at)))

  -- no word is left
  pub fault_behind-end : (place : ℕ) (waiting : Option PlacedOption) → length words ≤ place → fault_behind place waiting ≡ option_map (λ option. NoValue option) waiting
  unfolding fault_from
  fault_behind-end place waiting le =
      ap (λ rest. fault_from (map string_bytes (take place words)) (map string_bytes rest) waiting) (drop_all place words le)
