-- What stands beside versions, as one comes behind them or is ended.
use Rattle.std.proofs.Common.{◌≡◌, ℕ, ℤ, zero, suc, ◌+◌, ◌-◌, ◌<◌, List, [], ◌∷◌, ◌++◌, length, map, take, drop, refl, ap, sym, subst, ◌∙◌, arith}
use Rattle.std.specs.Prelude.{slice_index, slice_index_or}
use Rattle.std.proofs.lemmas.List.{drop-map, length-append, length-map, map-append, take-map}
use Rattle.std.proofs.lemmas.List.Elements.{All-cons, All-head, All-push, All-tail}
use Rattle.star_values.specs.Roomy.{Roomy}
use Rattle.star_values.specs.declared.value.Value.{Value}
use Rattle.star_values.specs.First.{AreIntegerColumns}
use Rattle.fact_versions.specs.Beside.{AreBeside, HaveRoomFor, version_rows}
use Rattle.fact_versions.specs.Blocks.{AreBlocks}
use Rattle.fact_versions.specs.Ends.{ended_by, with_end}
use Rattle.fact_versions.specs.Keys.{AreKeyColumns, HasOneMore, HaveAllKeys, column_of, keys_for}
use Rattle.fact_versions.proofs.EndsLemmas.{length-with_end}
use Rattle.fact_versions.specs.declared.version_blocks.VersionBlock.{VersionBlock}
use Rattle.fact_versions.specs.declared.version.Version.{Version}
use Rattle.fact_versions.specs.declared.version.TheConstants.{KEYS_IN_A_VERSION, MAX_VERSIONS}

-- the keys of a part of versions
pub part_keys : (column : List ℕ) (versions : List Version) (dimension first count : ℕ) → column ≡ keys_for dimension versions
    → take count (drop first column) ≡ keys_for dimension (take count (drop first versions))
part_keys column versions dimension first count are =
    ap (λ keys. take count (drop first keys)) are
    ∙ ap (take count) (drop-map (λ (version : Version). slice_index_or version.keys dimension 0) first versions)
    ∙ take-map (λ (version : Version). slice_index_or version.keys dimension 0) count (drop first versions)

-- the keys of one version more
more_keys : (versions : List Version) (version : Version) (old new : List (Roomy ℕ)) → length version.keys ≡ KEYS_IN_A_VERSION
    → ((dimension : ℕ) → dimension < KEYS_IN_A_VERSION → HasOneMore (column_of old dimension) (column_of new dimension) (slice_index version.keys dimension))
    → AreKeyColumns versions old → AreKeyColumns (versions ++ version ∷ []) new
more_keys versions version old new count more kept = record {
  whole = All-push (λ (v : Version). length v.keys ≡ KEYS_IN_A_VERSION) versions version kept.whole count;
  each = λ dimension low.
      (more dimension low).items ∙ ap (λ front. front ++ slice_index version.keys dimension ∷ []) (kept.each dimension low)
      ∙ sym (map-append (λ (v : Version). slice_index_or v.keys dimension 0) versions (version ∷ []));
}

-- one version more, and what stands beside it
pub beside_more : (old new : List Version) (version : Version) (before : ℕ) (integers more_integers : List (List ℤ)) (keys more_keys : List (Roomy ℕ))
    (blocks more_blocks : List VersionBlock) → new ≡ old ++ version ∷ [] → before ≡ length old → length old < MAX_VERSIONS
    → ((rows : List (List Value)) → length rows ≡ before → AreIntegerColumns rows integers → AreIntegerColumns (rows ++ version.row ∷ []) more_integers)
    → length version.keys ≡ KEYS_IN_A_VERSION
    → ((dimension : ℕ) → dimension < KEYS_IN_A_VERSION → HasOneMore (column_of keys dimension) (column_of more_keys dimension) (slice_index version.keys dimension))
    → ((versions : List Version) → length versions ≡ before → AreBlocks versions blocks → AreBlocks (versions ++ version ∷ []) more_blocks)
    → AreBeside old integers keys blocks → AreBeside new more_integers more_keys more_blocks
beside_more old new version before integers more_integers keys keys_then blocks more_blocks put counted few step count more note kept =
    subst (λ versions. AreBeside versions more_integers keys_then more_blocks) (sym put) (record {
      few = (let long = length-append old (version ∷ []) in omega arith);
      whole_integers =
          subst (λ rows. AreIntegerColumns rows more_integers) (sym (map-append (λ (v : Version). v.row) old (version ∷ [])))
          (step (version_rows old) (length-map old (λ (v : Version). v.row) ∙ sym counted) kept.whole_integers);
      whole_keys = more_keys old version keys keys_then count more kept.whole_keys;
      whole_blocks = note old (sym counted) kept.whole_blocks;
    })

-- one version more used up its room
pub room_less : (room : ℕ) (version : Version) (versions new : Roomy Version) (keys more_keys : List (Roomy ℕ)) (blocks more_blocks : Roomy VersionBlock)
    → 0 < room → new.items ≡ versions.items ++ version ∷ [] → new.room + 1 ≡ versions.room
    → ((dimension : ℕ) → dimension < KEYS_IN_A_VERSION → HasOneMore (column_of keys dimension) (column_of more_keys dimension) (slice_index version.keys dimension))
    → length more_blocks.items + more_blocks.room ≡ length blocks.items + blocks.room
    → HaveRoomFor room versions keys blocks → HaveRoomFor (room - 1) new more_keys more_blocks
room_less room version versions new keys more_keys blocks more_blocks some put less more same have = record {
  of_versions = (let all = have.of_versions in omega arith);
  of_keys = λ dimension low. (let all = have.of_keys dimension low in let used = (more dimension low).room in omega arith);
  of_blocks = (let long = ap length put ∙ length-append versions.items (version ∷ []) in let all = have.of_blocks in omega arith);
}

-- what does not read the end of a version stays as one is ended
map-with_end : {X : Type 0} (f : Version → X) → ((commit : ℕ) (version : Version) → f (ended_by commit version) ≡ f version)
    → (versions : List Version) (position commit : ℕ) → map f (with_end versions position commit) ≡ map f versions
map-with_end f same [] position commit = refl
map-with_end f same (version ∷ versions) zero commit = ap (λ x. x ∷ map f versions) (same commit version)
map-with_end f same (version ∷ versions) (suc position) commit = ap (λ rest. f version ∷ rest) (map-with_end f same versions position commit)

whole-with_end : (versions : List Version) (position commit : ℕ) → HaveAllKeys versions → HaveAllKeys (with_end versions position commit)
whole-with_end [] position commit whole = whole
whole-with_end (version ∷ versions) zero commit whole =
    let P : Version → Type 0 = λ v. length v.keys ≡ KEYS_IN_A_VERSION in
    All-cons P (ended_by commit version) versions (All-head P version versions whole) (All-tail P version versions whole)
whole-with_end (version ∷ versions) (suc position) commit whole =
    let P : Version → Type 0 = λ v. length v.keys ≡ KEYS_IN_A_VERSION in
    All-cons P version (with_end versions position commit) (All-head P version versions whole)
    (whole-with_end versions position commit (All-tail P version versions whole))

-- one version ended
pub beside_ended : (old new now : List Version) (position commit : ℕ) (integers : List (List ℤ)) (keys : List (Roomy ℕ)) (blocks more_blocks : List VersionBlock)
    → old ≡ now → new ≡ with_end now position commit → AreBlocks (with_end old position commit) more_blocks
    → AreBeside old integers keys blocks → AreBeside new integers keys more_blocks
beside_ended old new now position commit integers keys blocks more_blocks same ended noted kept =
    subst (λ versions. AreBeside versions integers keys more_blocks) (sym (ended ∙ ap (λ versions. with_end versions position commit) (sym same)))
    (record {
      few = (let long = length-with_end old position commit in let few = kept.few in omega arith);
      whole_integers =
          subst (λ rows. AreIntegerColumns rows integers) (sym (map-with_end (λ version. version.row) (λ commit version. refl) old position commit))
          kept.whole_integers;
      whole_keys = record {
        whole = whole-with_end old position commit kept.whole_keys.whole;
        each = λ dimension low.
            kept.whole_keys.each dimension low
            ∙ sym (map-with_end (λ version. slice_index_or version.keys dimension 0) (λ commit version. refl) old position commit);
      };
      whole_blocks = noted;
    })

-- and the room stays
pub room_stays : (room : ℕ) (versions new : Roomy Version) (keys : List (Roomy ℕ)) (blocks more_blocks : Roomy VersionBlock)
    → length new.items ≡ length versions.items → new.room ≡ versions.room
    → length more_blocks.items ≡ length blocks.items → more_blocks.room ≡ blocks.room
    → HaveRoomFor room versions keys blocks → HaveRoomFor room new keys more_blocks
room_stays room versions new keys blocks more_blocks count rest blocks_count blocks_rest have = record {
  of_versions = (let all = have.of_versions in omega arith);
  of_keys = have.of_keys;
  of_blocks = (let all = have.of_blocks in omega arith);
}
