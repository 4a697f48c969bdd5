-- Blocks of versions: as one comes behind them or is ended, and what a block tells of each of its versions.
use Rattle.std.proofs.Common.{◌≡◌, ◌≢◌, ◌⊎◌, inl, inr, ℕ, zero, suc, ◌+◌, ◌-◌, ◌*◌, ◌/◌, ◌%◌, ◌<◌, ◌≤◌, Bool, true, false, ◌||◌, max, List, [], ◌∷◌, ◌++◌, length, get_or, set, take, drop, refl, ap, sym, subst, ◌∙◌, arith}
use Rattle.std.specs.List.{refill}
use Rattle.std.specs.Prelude.{All, IfSome, IsTrue, ◌↔◌, Option, slice_get, slice_range}
use Rattle.std.proofs.Math.ListN.{get_or-append}
use Rattle.std.proofs.Math.Seq.{drop-length, get_or-append_seam}
use Rattle.std.proofs.lemmas.Bool.{cases_eq, cases_lt}
use Rattle.std.proofs.lemmas.Bool.Decides.{nat_tests}
use Rattle.std.proofs.lemmas.List.{drop-append-le, get_or-set_other, get_or-set_same, length-append, length-drop, length-set, length-take, take-append-le, take_all}
use Rattle.std.proofs.lemmas.Option.{slice_get-get_or}
use Rattle.fact_versions.specs.declared.version_blocks.TheConstants.{VERSIONS_IN_A_BLOCK}
use Rattle.star_values.proofs.PlaceLemmas.{refill-all}
use Rattle.fact_versions.specs.Blocks.{AreBlocks, HaveBlocks, AreSeen, block_of, is_end, versions_in, with_end_by, with_version}
use Rattle.fact_versions.specs.Ends.{with_end}
use Rattle.fact_versions.proofs.EndsLemmas.{drop-with_end, drop-with_end_before, length-with_end, past-with_end, take-with_end}
use Rattle.fact_versions.proofs.PartLemmas.{get_or-part, inside_part, length-part}
use Rattle.fact_versions.specs.declared.version_blocks.VersionBlock.{VersionBlock}
use Rattle.fact_versions.specs.declared.version.Version.{Version}

same_block : (begin other : ℕ) (ended flag : Bool) → begin ≡ other → ended ≡ flag
    → ◌≡◌ {A = VersionBlock} (record { begin = begin; ended = ended }) (record { begin = other; ended = flag })
same_block begin other ended flag one two = cc

or_turned : (a b c : Bool) → ((a || b) || c) ≡ ((a || c) || b)
or_turned true b c = refl
or_turned false true true = refl
or_turned false true false = refl
or_turned false false true = refl
or_turned false false false = refl

-- two versions come into a block in either order
turned : (block : VersionBlock) (one other : Version) → with_version (with_version block one) other ≡ with_version (with_version block other) one
turned block one other =
    same_block _ _ _ _ (let most : max (max block.begin one.begin) other.begin ≡ max (max block.begin other.begin) one.begin = omega arith in most)
    (or_turned block.ended (is_end one.end) (is_end other.end))

-- the block of versions behind which one more comes
block-more : (versions : List Version) (version : Version) → block_of (versions ++ version ∷ []) ≡ with_version (block_of versions) version
block-more [] version = refl
block-more (v ∷ versions) version =
    ap (λ block. with_version block v) (block-more versions version) ∙ turned (block_of versions) version v

-- a block that is full stays as it is
before_more : (versions : List Version) (version : Version) (number : ℕ) → number * VERSIONS_IN_A_BLOCK + VERSIONS_IN_A_BLOCK ≤ length versions
    → versions_in number (versions ++ version ∷ []) ≡ versions_in number versions
before_more versions version number full =
    let left = length-drop (number * VERSIONS_IN_A_BLOCK) versions in
    ap (take VERSIONS_IN_A_BLOCK) (drop-append-le (number * VERSIONS_IN_A_BLOCK) versions (version ∷ []) (omega arith))
    ∙ take-append-le VERSIONS_IN_A_BLOCK (drop (number * VERSIONS_IN_A_BLOCK) versions) (version ∷ []) (omega arith)

-- and one that is not has one version more
last_more : (versions : List Version) (version : Version) (number : ℕ) → number * VERSIONS_IN_A_BLOCK ≤ length versions
    → length versions < number * VERSIONS_IN_A_BLOCK + VERSIONS_IN_A_BLOCK
    → versions_in number (versions ++ version ∷ []) ≡ versions_in number versions ++ version ∷ []
last_more versions version number within last =
    let rest : List Version = drop (number * VERSIONS_IN_A_BLOCK) versions in
    let left : length rest ≡ length versions - number * VERSIONS_IN_A_BLOCK = length-drop (number * VERSIONS_IN_A_BLOCK) versions in
    let more : length (rest ++ version ∷ []) ≡ length rest + 1 = length-append rest (version ∷ []) in
    ap (take VERSIONS_IN_A_BLOCK) (drop-append-le (number * VERSIONS_IN_A_BLOCK) versions (version ∷ []) within)
    ∙ take_all VERSIONS_IN_A_BLOCK (rest ++ version ∷ []) (omega arith)
    ∙ ap (λ front. front ++ version ∷ []) (sym (take_all VERSIONS_IN_A_BLOCK rest (omega arith)))

-- blocks of which the last has one version more
one_more : (versions : List Version) (version : Version) (old new : List VersionBlock) → AreBlocks versions old
    → HaveBlocks (length versions + 1) (length new)
    → ((number : ℕ) (otherwise : VersionBlock) → number < length versions / VERSIONS_IN_A_BLOCK → get_or new number otherwise ≡ get_or old number otherwise)
    → ((otherwise : VersionBlock) → get_or new (length versions / VERSIONS_IN_A_BLOCK) otherwise
    ≡ with_version (block_of (versions_in (length versions / VERSIONS_IN_A_BLOCK) versions)) version)
    → AreBlocks (versions ++ version ∷ []) new
one_more versions version old new kept counted same last = record {
  counted = subst (λ n. HaveBlocks n (length new)) (sym (length-append versions (version ∷ []))) counted;
  each = λ number otherwise low. by number otherwise (let most = counted.last in omega arith) (cases_eq number (length versions / VERSIONS_IN_A_BLOCK));
}
  where
    by : (number : ℕ) (otherwise : VersionBlock) → number * VERSIONS_IN_A_BLOCK ≤ length versions
        → (number ≡ length versions / VERSIONS_IN_A_BLOCK) ⊎ (number ≢ length versions / VERSIONS_IN_A_BLOCK)
        → get_or new number otherwise ≡ block_of (versions_in number (versions ++ version ∷ []))
    by number otherwise low (inl here) =
        ap (λ n. get_or new n otherwise) here ∙ last otherwise
        ∙ ap (λ n. with_version (block_of (versions_in n versions)) version) (sym here)
        ∙ sym (ap block_of (last_more versions version number low (omega arith)) ∙ block-more (versions_in number versions) version)
    by number otherwise low (inr apart) =
        let few = kept.counted.few in
        same number otherwise (omega arith) ∙ kept.each number otherwise (omega arith)
        ∙ ap block_of (sym (before_more versions version number (omega arith)))

-- a version that begins a block
pub pushed_blocks : (versions : List Version) (version : Version) (old new : List VersionBlock) (block : VersionBlock)
    → length versions % VERSIONS_IN_A_BLOCK ≡ 0 → new ≡ old ++ block ∷ [] → block ≡ record { begin = version.begin; ended = is_end version.end }
    → AreBlocks versions old → AreBlocks (versions ++ version ∷ []) new
pushed_blocks versions version old new block full put is kept =
    let few = kept.counted.few in
    let most = kept.counted.last in
    let all : length versions / VERSIONS_IN_A_BLOCK ≡ length old = omega arith in
    let whole : length versions / VERSIONS_IN_A_BLOCK * VERSIONS_IN_A_BLOCK ≡ length versions = omega arith in
    let long : length new ≡ length old + 1 = ap length put ∙ length-append old (block ∷ []) in
    let none : versions_in (length versions / VERSIONS_IN_A_BLOCK) versions ≡ [] =
    ap (λ n. take VERSIONS_IN_A_BLOCK (drop n versions)) whole ∙ ap (take VERSIONS_IN_A_BLOCK) (drop-length versions) ∙ take_all VERSIONS_IN_A_BLOCK [] (omega arith) in
    let first : block ≡ with_version (block_of []) version =
    is ∙ same_block _ _ _ _ (let least : version.begin ≡ max 0 version.begin = omega arith in least) refl in
    one_more versions version old new kept (record { few = omega arith; last = omega arith })
    (λ number otherwise low. ap (λ blocks. get_or blocks number otherwise) put ∙ get_or-append old (block ∷ []) otherwise number (omega arith))
    (λ otherwise. ap (λ n. get_or new n otherwise) all ∙ ap (λ blocks. get_or blocks (length old) otherwise) put
    ∙ get_or-append_seam old block [] otherwise ∙ first ∙ ap (λ front. with_version (block_of front) version) (sym none))

-- a version that comes into the last block
pub noted_blocks : (versions : List Version) (version : Version) (before : ℕ) (old new : List VersionBlock) (block read : VersionBlock)
    → length versions ≡ before → before % VERSIONS_IN_A_BLOCK ≢ 0 → new ≡ set old (before / VERSIONS_IN_A_BLOCK) block
    → block ≡ with_version (get_or old (before / VERSIONS_IN_A_BLOCK) read) version
    → AreBlocks versions old → AreBlocks (versions ++ version ∷ []) new
noted_blocks versions version before old new block read all some put is kept =
    let few = kept.counted.few in
    let most = kept.counted.last in
    let rest : 0 < before % VERSIONS_IN_A_BLOCK = omega arith in
    let within : before / VERSIONS_IN_A_BLOCK < length old = omega arith in
    let long : length new ≡ length old = ap length put ∙ length-set old (before / VERSIONS_IN_A_BLOCK) block in
    let place : length versions / VERSIONS_IN_A_BLOCK ≡ before / VERSIONS_IN_A_BLOCK = ap (λ n. n / VERSIONS_IN_A_BLOCK) all in
    one_more versions version old new kept (record { few = omega arith; last = omega arith })
    (λ number otherwise low. ap (λ blocks. get_or blocks number otherwise) put
    ∙ get_or-set_other old (before / VERSIONS_IN_A_BLOCK) number block otherwise (λ same. omega arith))
    (λ otherwise. ap (λ n. get_or new n otherwise) place ∙ ap (λ blocks. get_or blocks (before / VERSIONS_IN_A_BLOCK) otherwise) put
    ∙ get_or-set_same old (before / VERSIONS_IN_A_BLOCK) block otherwise within ∙ is
    ∙ ap (λ b. with_version b version) (kept.each (before / VERSIONS_IN_A_BLOCK) read within)
    ∙ ap (λ n. with_version (block_of (versions_in n versions)) version) (sym place))

-- blocks that were lent to be written over, as one of them was
pub refill-block : (old lent : List VersionBlock) (place : ℕ) (block : VersionBlock) → lent ≡ old
    → refill (length old) old (set lent place block) ≡ set old place block
refill-block old lent place block same =
    ap (λ blocks. refill (length old) old (set blocks place block)) same
    ∙ refill-all old (set old place block) (length-set old place block)

-- the block of versions of which one is ended that was not
block-with_end : (versions : List Version) (position commit : ℕ) → position < length versions
    → ((otherwise : Version) → (get_or versions position otherwise).end ≡ 0)
    → block_of (with_end versions position commit) ≡ with_end_by (block_of versions) commit
block-with_end [] position commit within live = absurd (omega arith)
block-with_end (version ∷ versions) zero commit within live =
    let fresh : version.end ≡ 0 = live version in
    same_block _ _ _ _ refl (ended (block_of versions).ended (is_end version.end) (ap is_end fresh))
  where
    ended : (some this : Bool) → this ≡ false → (some || is_end commit) ≡ ((some || this) || is_end commit)
    ended true this is = refl
    ended false this is = ap (λ flag. flag || is_end commit) (sym is)
block-with_end (version ∷ versions) (suc position) commit within live =
    let rest = block-with_end versions position commit (omega arith) live in
    ap (λ block. with_version block version) rest
    ∙ same_block _ _ _ _ refl (or_turned (block_of versions).ended (is_end commit) (is_end version.end))

-- the block of a version that is ended has that version ended
own_block : (versions : List Version) (number place commit : ℕ)
    → versions_in number (with_end versions (number * VERSIONS_IN_A_BLOCK + place) commit) ≡ with_end (versions_in number versions) place commit
own_block versions number place commit =
    ap (take VERSIONS_IN_A_BLOCK) (drop-with_end (number * VERSIONS_IN_A_BLOCK) versions place commit)
    ∙ take-with_end VERSIONS_IN_A_BLOCK (drop (number * VERSIONS_IN_A_BLOCK) versions) place commit

-- and every other block stays as it is
other_block : (versions : List Version) (number position commit : ℕ) → number ≢ position / VERSIONS_IN_A_BLOCK
    → versions_in number (with_end versions position commit) ≡ versions_in number versions
other_block versions number position commit apart = by (cases_lt position (number * VERSIONS_IN_A_BLOCK))
  where
    by : (position < number * VERSIONS_IN_A_BLOCK) ⊎ (number * VERSIONS_IN_A_BLOCK ≤ position)
        → versions_in number (with_end versions position commit) ≡ versions_in number versions
    by (inl before) = ap (take VERSIONS_IN_A_BLOCK) (drop-with_end_before (number * VERSIONS_IN_A_BLOCK) versions position commit before)
    by (inr behind) =
        let whole : position ≡ number * VERSIONS_IN_A_BLOCK + (position - number * VERSIONS_IN_A_BLOCK) = omega arith in
        let past : VERSIONS_IN_A_BLOCK ≤ position - number * VERSIONS_IN_A_BLOCK = omega arith in
        let short = length-take VERSIONS_IN_A_BLOCK (drop (number * VERSIONS_IN_A_BLOCK) versions) in
        ap (λ p. versions_in number (with_end versions p commit)) whole
        ∙ own_block versions number (position - number * VERSIONS_IN_A_BLOCK) commit
        ∙ past-with_end (versions_in number versions) (position - number * VERSIONS_IN_A_BLOCK) commit (omega arith)

-- a version that is ended, in its block
pub ended_blocks : (versions : List Version) (position commit : ℕ) (old new : List VersionBlock) (block read : VersionBlock)
    → position < length versions → IfSome (slice_get versions position) (λ version. version.end ≡ 0)
    → new ≡ set old (position / VERSIONS_IN_A_BLOCK) block
    → block ≡ with_end_by (get_or old (position / VERSIONS_IN_A_BLOCK) read) commit
    → AreBlocks versions old → AreBlocks (with_end versions position commit) new
ended_blocks versions position commit old new block read inside live put is kept =
    let few = kept.counted.few in
    let within : position / VERSIONS_IN_A_BLOCK < length old = omega arith in
    subst (AreBlocks (with_end versions position commit)) (sym put) (record {
      counted =
          subst (λ n. HaveBlocks n (length (set old (position / VERSIONS_IN_A_BLOCK) block))) (sym (length-with_end versions position commit))
          (subst (HaveBlocks (length versions)) (sym (length-set old (position / VERSIONS_IN_A_BLOCK) block)) kept.counted);
      each = λ number otherwise low.
          by within number otherwise (let long = length-set old (position / VERSIONS_IN_A_BLOCK) block in omega arith)
          (cases_eq number (position / VERSIONS_IN_A_BLOCK));
    })
  where
    own : block_of (with_end (versions_in (position / VERSIONS_IN_A_BLOCK) versions) (position % VERSIONS_IN_A_BLOCK) commit)
        ≡ with_end_by (block_of (versions_in (position / VERSIONS_IN_A_BLOCK) versions)) commit
    own =
        let rest : position % VERSIONS_IN_A_BLOCK < VERSIONS_IN_A_BLOCK = omega arith in
        let whole : position / VERSIONS_IN_A_BLOCK * VERSIONS_IN_A_BLOCK + position % VERSIONS_IN_A_BLOCK ≡ position = omega arith in
        block-with_end (versions_in (position / VERSIONS_IN_A_BLOCK) versions) (position % VERSIONS_IN_A_BLOCK) commit
        (inside_part versions (position / VERSIONS_IN_A_BLOCK * VERSIONS_IN_A_BLOCK) VERSIONS_IN_A_BLOCK (position % VERSIONS_IN_A_BLOCK) rest (omega arith))
        (λ version. ap (λ (v : Version). v.end)
        (get_or-part versions (position / VERSIONS_IN_A_BLOCK * VERSIONS_IN_A_BLOCK) VERSIONS_IN_A_BLOCK (position % VERSIONS_IN_A_BLOCK) version rest
        ∙ ap (λ p. get_or versions p version) whole) ∙ fresh version)
      where
        fresh : (otherwise : Version) → (get_or versions position otherwise).end ≡ 0
        fresh otherwise =
            subst (λ (found : Option Version). IfSome found (λ version. version.end ≡ 0)) (slice_get-get_or versions position otherwise inside) live

    by : position / VERSIONS_IN_A_BLOCK < length old → (number : ℕ) (otherwise : VersionBlock) → number < length old
        → (number ≡ position / VERSIONS_IN_A_BLOCK) ⊎ (number ≢ position / VERSIONS_IN_A_BLOCK)
        → get_or (set old (position / VERSIONS_IN_A_BLOCK) block) number otherwise ≡ block_of (versions_in number (with_end versions position commit))
    by within number otherwise low (inl here) =
        let whole : position / VERSIONS_IN_A_BLOCK * VERSIONS_IN_A_BLOCK + position % VERSIONS_IN_A_BLOCK ≡ position = omega arith in
        ap (λ n. get_or (set old (position / VERSIONS_IN_A_BLOCK) block) n otherwise) here
        ∙ get_or-set_same old (position / VERSIONS_IN_A_BLOCK) block otherwise within ∙ is
        ∙ ap (λ b. with_end_by b commit) (kept.each (position / VERSIONS_IN_A_BLOCK) read within) ∙ sym own
        ∙ ap block_of (sym (own_block versions (position / VERSIONS_IN_A_BLOCK) (position % VERSIONS_IN_A_BLOCK) commit))
        ∙ ap (λ p. block_of (versions_in (position / VERSIONS_IN_A_BLOCK) (with_end versions p commit))) whole
        ∙ ap (λ n. block_of (versions_in n (with_end versions position commit))) (sym here)
    by within number otherwise low (inr apart) =
        get_or-set_other old (position / VERSIONS_IN_A_BLOCK) number block otherwise apart ∙ kept.each number otherwise low
        ∙ ap block_of (sym (other_block versions number position commit apart))

no_end : (end : ℕ) → is_end end ≡ false → end ≡ 0
no_end end is = grind (arith, nat_tests)

neither : (a b : Bool) → (a || b) ≡ false → (a ≡ false) × (b ≡ false)
neither true b is = absurd (cc is)
neither false b is = (refl, is)

-- what a block tells of each of its versions
told : (versions : List Version) (place : ℕ) (otherwise : Version) → place < length versions
    → ((get_or versions place otherwise).begin ≤ (block_of versions).begin)
    × ((block_of versions).ended ≡ false → (get_or versions place otherwise).end ≡ 0)
told [] place otherwise within = absurd (omega arith)
told (version ∷ versions) zero otherwise within =
    (omega arith, λ none. no_end version.end (neither (block_of versions).ended (is_end version.end) none).1)
told (version ∷ versions) (suc place) otherwise within =
    let rest = told versions place otherwise (omega arith) in
    (let less = rest.0 in omega arith, λ none. rest.1 (neither (block_of versions).ended (is_end version.end) none).0)

-- a version of a block that is seen is seen
seen_in_block : (versions : List Version) (blocks : List VersionBlock) (number place commit : ℕ) (otherwise : Version) (block : VersionBlock) → AreBlocks versions blocks
    → number < length blocks → place < VERSIONS_IN_A_BLOCK → number * VERSIONS_IN_A_BLOCK + place < length versions
    → ((get_or blocks number block).begin ≤ commit) × ((get_or blocks number block).ended ≡ false)
    → ((get_or versions (number * VERSIONS_IN_A_BLOCK + place) otherwise).begin ≤ commit)
    × ((get_or versions (number * VERSIONS_IN_A_BLOCK + place) otherwise).end ≡ 0)
seen_in_block versions blocks number place commit otherwise block kept inside low within seen =
    let own = told (versions_in number versions) place otherwise (inside_part versions (number * VERSIONS_IN_A_BLOCK) VERSIONS_IN_A_BLOCK place low within) in
    let most = ap (λ (b : VersionBlock). b.begin) (kept.each number block inside) in
    let version = ap (λ (v : Version). v.begin) (get_or-part versions (number * VERSIONS_IN_A_BLOCK) VERSIONS_IN_A_BLOCK place otherwise low) in (
      (let less = own.0 in let least = seen.0 in omega arith),
      sym (ap (λ (v : Version). v.end) (get_or-part versions (number * VERSIONS_IN_A_BLOCK) VERSIONS_IN_A_BLOCK place otherwise low))
          ∙ own.1 (sym (ap (λ (b : VersionBlock). b.ended) (kept.each number block inside)) ∙ seen.1),
    )

-- versions of blocks that are seen are seen
seen_by_blocks : (versions : List Version) (blocks : List VersionBlock) (first end commit : ℕ) → first < end → end ≤ length versions
    → AreBlocks versions blocks
    → AreSeen commit (slice_range blocks (first / VERSIONS_IN_A_BLOCK) ((end - 1) / VERSIONS_IN_A_BLOCK + 1))
    → All (λ version. (version.begin ≤ commit) × (version.end ≡ 0)) (take (end - first) (drop first versions))
seen_by_blocks versions blocks first end commit some inside kept seen place otherwise low =
    let part = length-part versions first (end - first) (omega arith) in
    subst (λ (version : Version). (version.begin ≤ commit) × (version.end ≡ 0)) (sym (get_or-part versions first (end - first) place otherwise (omega arith)))
    (at (first + place) (omega arith) (omega arith))
  where
    at : (position : ℕ) → first ≤ position → position < end
        → ((get_or versions position otherwise).begin ≤ commit) × ((get_or versions position otherwise).end ≡ 0)
    at position low high =
        let few = kept.counted.few in
        let rest : position % VERSIONS_IN_A_BLOCK < VERSIONS_IN_A_BLOCK = omega arith in
        let whole : position / VERSIONS_IN_A_BLOCK * VERSIONS_IN_A_BLOCK + position % VERSIONS_IN_A_BLOCK ≡ position = omega arith in
        let from : first / VERSIONS_IN_A_BLOCK ≤ position / VERSIONS_IN_A_BLOCK = omega arith in
        let to : position / VERSIONS_IN_A_BLOCK ≤ (end - 1) / VERSIONS_IN_A_BLOCK = omega arith in
        let back : first / VERSIONS_IN_A_BLOCK + (position / VERSIONS_IN_A_BLOCK - first / VERSIONS_IN_A_BLOCK) ≡ position / VERSIONS_IN_A_BLOCK = omega arith in
        let here =
        get_or-part blocks (first / VERSIONS_IN_A_BLOCK) ((end - 1) / VERSIONS_IN_A_BLOCK + 1 - first / VERSIONS_IN_A_BLOCK)
        (position / VERSIONS_IN_A_BLOCK - first / VERSIONS_IN_A_BLOCK) (record { begin = 0; ended = false }) (omega arith)
        ∙ ap (λ n. get_or blocks n (record { begin = 0; ended = false })) back in
        subst (λ p. ((get_or versions p otherwise).begin ≤ commit) × ((get_or versions p otherwise).end ≡ 0)) whole
        (seen_in_block versions blocks (position / VERSIONS_IN_A_BLOCK) (position % VERSIONS_IN_A_BLOCK) commit otherwise (record { begin = 0; ended = false }) kept
        (omega arith) rest (omega arith)
        (subst (λ (b : VersionBlock). (b.begin ≤ commit) × (b.ended ≡ false)) here
        (seen (position / VERSIONS_IN_A_BLOCK - first / VERSIONS_IN_A_BLOCK) (record { begin = 0; ended = false })
        (inside_part blocks (first / VERSIONS_IN_A_BLOCK) ((end - 1) / VERSIONS_IN_A_BLOCK + 1 - first / VERSIONS_IN_A_BLOCK)
        (position / VERSIONS_IN_A_BLOCK - first / VERSIONS_IN_A_BLOCK) (omega arith) (omega arith)))))

-- the same by an answer, of versions of which there may be none
pub seen_if_answered : (versions now : List Version) (blocks : List VersionBlock) (first end commit : ℕ) (answer : Bool) → versions ≡ now → end ≤ length now
    → AreBlocks versions blocks
    → (first < end → IsTrue answer ↔ AreSeen commit (slice_range blocks (first / VERSIONS_IN_A_BLOCK) ((end - 1) / VERSIONS_IN_A_BLOCK + 1)))
    → IsTrue answer → All (λ version. (version.begin ≤ commit) × (version.end ≡ 0)) (take (end - first) (drop first now))
seen_if_answered versions now blocks first end commit answer same inside kept tells is = by (cases_lt first end)
  where
    by : (first < end) ⊎ (end ≤ first) → All (λ version. (version.begin ≤ commit) × (version.end ≡ 0)) (take (end - first) (drop first now))
    by (inl some) =
        let long = ap length same in
        subst (λ vs. All (λ (version : Version). (version.begin ≤ commit) × (version.end ≡ 0)) (take (end - first) (drop first vs))) same
        (seen_by_blocks versions blocks first end commit some (omega arith) kept ((tells some).0 is))
    by (inr none) = λ place otherwise low. let few = length-take (end - first) (drop first now) in absurd (omega arith)
