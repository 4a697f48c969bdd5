-- What leaves as it is what a distributor has, and what changes it at one slot.
use Rattle.core_state.proofs.Words.{◌<◌, ◌∙◌, ◌≡◌, ◌≢◌, ap, arith, attached_at, attached_to, ext_get_or, get_or, get_or-map-range_with_len, Grouped, length, length-map-range_with_len, length-set, map, None, Option, range_with_len, set, slice_get, slice_get-get_or, Some, State, sym, ℕ}
use Rattle.core_state.proofs.CutFoundLemmas.{map-below}
use Rattle.core_state.proofs.FrameLemmas.{at-set}

-- as many as there are slots
pub attached-count : (state : State) → length (attached_to state) ≡ length state.lives.slots
attached-count state = length-map-range_with_len (attached_at state) 0 (length state.lives.slots)

-- what a distributor has at a slot
pub attached-get : (state : State) (slot : ℕ) → slot < length state.lives.slots → get_or (attached_to state) slot None ≡ attached_at state slot
attached-get state slot low = get_or-map-range_with_len (attached_at state) 0 (length state.lives.slots) slot slot None low (omega arith)

pub attached-slice : (state : State) (slot : ℕ) (attached : Option Grouped) → slot < length state.lives.slots → attached_at state slot ≡ attached
    → slice_get (attached_to state) slot ≡ Some attached
attached-slice state slot attached low is =
    slice_get-get_or (attached_to state) slot None (let many = attached-count state in omega arith)
    ∙ ap Some (attached-get state slot low ∙ is)

-- the same at each slot
pub attached-same : (state later : State) → length later.lives.slots ≡ length state.lives.slots
    → ((slot : ℕ) → slot < length state.lives.slots → attached_at later slot ≡ attached_at state slot) → attached_to later ≡ attached_to state
attached-same state later count each =
    ap (λ n. map (attached_at later) (range_with_len 0 n)) count
    ∙ map-below (attached_at later) (attached_at state) (length state.lives.slots) each

-- the same at each slot but one
pub attached-set : (state later : State) (slot : ℕ) (attached : Option Grouped) → length later.lives.slots ≡ length state.lives.slots
    → slot < length state.lives.slots → attached_at later slot ≡ attached
    → ((other : ℕ) → other < length state.lives.slots → other ≢ slot → attached_at later other ≡ attached_at state other)
    → attached_to later ≡ set (attached_to state) slot attached
attached-set state later slot attached count low here others =
    ext_get_or None (attached_to later) (set (attached_to state) slot attached)
    (attached-count later ∙ count ∙ sym (length-set (attached_to state) slot attached ∙ attached-count state)) (λ at within.
    let many = attached-count later in
    let all = attached-count state in
    let there : at < length later.lives.slots = omega arith in
    let inside : at < length state.lives.slots = omega arith in
    attached-get later at there
    ∙ at-set (λ groups. attached_at later at ≡ groups) (attached_to state) slot at attached None (omega arith)
    (λ is. ap (attached_at later) is ∙ here) (λ apart. others at inside apart ∙ sym (attached-get state at inside)))
