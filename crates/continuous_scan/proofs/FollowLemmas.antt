-- Over whole lists of calls, what was cut for a running query is the front of its lap.
use Rattle.std.proofs.Common.{◌≡◌, ◌≢◌, ℕ, zero, suc, ◌<◌, ◌-◌, Bool, true, false, cond, eqb, List, [], ◌∷◌, ◌++◌, length as count, take, drop, set, map, replicate, refl, ap, sym, ◌∙◌, arith, subst, append-nil}
use Rattle.std.specs.Prelude.{Option, Some, None, option_map, slice_get}
use Rattle.std.specs.List.{range_with_len}
use Rattle.std.proofs.lemmas.Bool.{eqb-true, eqb-false}
use Rattle.std.proofs.lemmas.List.{take_all, take-append-drop, get_or-set_same, length-set, length-replicate, get_or-replicate}
use Rattle.std.proofs.lemmas.Option.{slice_get-map, get_or_from_slice_get, slice_get_within, slice_get-get_or}
use Rattle.star_plan.specs.declared.star_query.StarQuery.{StarQuery}
use Rattle.continuous_scan.specs.Scanning.{Running, Scanning}
use Rattle.continuous_scan.specs.Lap.{lap, still_to_come}
use Rattle.continuous_scan.specs.Range.{new_scan, first_of, first_in, end_in, covered, some_run, with_left, cut_slot, cut_positions, after_cut}
use Rattle.continuous_scan.specs.Calls.{AreInStep, CanCut, Call, Started, Stopped, Cut, CanCall, CanCallAll, Followed, followed_by, followed, below}
use Rattle.continuous_scan.proofs.LapLemmas.{length-lap}
use Rattle.continuous_scan.proofs.StepLemmas.{CutsOne, step_taken}
use Rattle.continuous_scan.proofs.EndLemmas.{cuts_one}
use Rattle.continuous_scan.proofs.CallLemmas.{in_step-new, in_step-start, in_step-stop, in_step-cut, with_left-some}

set_there : {X : Type 0} (xs : List X) (i : ℕ) (x : X) → i < count xs → slice_get (set xs i x) i ≡ Some x
set_there xs i x inside =
    slice_get-get_or (set xs i x) i x (omega (arith, length-set xs i x)) ∙ ap Some (get_or-set_same xs i x x inside)

set_other : {X : Type 0} (xs : List X) (i j : ℕ) (x : X) → i ≢ j → slice_get (set xs i x) j ≡ slice_get xs j
set_other [] i j x apart = refl
set_other (y ∷ ys) zero zero x apart = absurd (apart refl)
set_other (y ∷ ys) zero (suc j) x apart = refl
set_other (y ∷ ys) (suc i) zero x apart = refl
set_other (y ∷ ys) (suc i) (suc j) x apart = set_other ys i j x (λ e. apart (ap suc e))

-- these positions are the front of the query's lap, as far as they are below its extent
abbrev pub IsFront : List ℕ → Running → Type 0
IsFront positions query =
    below query.extent positions ≡ take (query.extent - query.left) (lap query.start query.extent)

-- the same of the query in a slot, if one runs
abbrev pub SlotIsFront : (slot : ℕ) → List (Option Running) → List ℕ → Type 0
SlotIsFront slot running positions = (query : Running) → slice_get running slot ≡ Some (Some query) → IsFront positions query

-- what holds after each call
pub record Follows (slot : ℕ) (now : Followed) : Type 0 where
  pub in_step : AreInStep now.scan
  pub front : SlotIsFront slot now.scan.running now.positions

front-start : (slot other snapshot extent start : ℕ) (star : StarQuery) (running : List (Option Running)) (before : List ℕ)
    → other < count running → SlotIsFront slot running before
    → (t : Bool) → t ≡ eqb other slot
    → SlotIsFront slot (set running other (Some (record { query = star; snapshot = snapshot; extent = extent; start = start; left = extent }))) (cond t [] before)
front-start slot other snapshot extent start star running before inside was true e query there =
    let new : Running = record { query = star; snapshot = snapshot; extent = extent; start = start; left = extent } in
    let same : other ≡ slot = eqb-true other slot (sym e) in
    let here : slice_get (set running other (Some new)) slot ≡ Some (Some new) =
    subst (λ k. slice_get (set running other (Some new)) k ≡ Some (Some new)) same (set_there running other (Some new) inside) in
    let is : new ≡ query = cc (here, there) in
    let none : 0 ≡ extent - extent = omega arith in
    let front : IsFront [] new = ap (λ k. take k (lap start extent)) none in
    subst (IsFront []) is front
front-start slot other snapshot extent start star running before inside was false e query there =
    was query (sym (set_other running other slot _ (eqb-false other slot (sym e))) ∙ there)

front-stop : (slot other : ℕ) (running : List (Option Running)) (before : List ℕ)
    → other < count running → SlotIsFront slot running before → (t : Bool) → t ≡ eqb other slot
    → SlotIsFront slot (set running other None) before
front-stop slot other running before inside was true e query there =
    let same : other ≡ slot = eqb-true other slot (sym e) in
    let here : slice_get (set running other None) slot ≡ Some None =
    subst (λ k. slice_get (set running other None) k ≡ Some None) same (set_there running other None inside) in
    absurd (cc (here, there))
front-stop slot other running before inside was false e query there =
    was query (sym (set_other running other slot None (eqb-false other slot (sym e))) ∙ there)

-- the query in a slot before a cut, by what it is behind it
front-left : (position length first end left : ℕ) (old query : Running) (before : List ℕ) → CutsOne position length first end old
    → IsFront before old → old.left - covered first end old.extent ≡ left → with_left left old ≡ Some query
    → IsFront (before ++ range_with_len first (end - first)) query
front-left position length first end zero old query before cuts was e there = absurd (cc there)
front-left position length first end (suc left) old query before cuts was e there =
    let is : record old { left = suc left } ≡ query = cc (there, with_left-some left old) in
    subst (IsFront (before ++ range_with_len first (end - first))) is
    (step_taken position length first end old before cuts was ∙ ap (λ k. take (old.extent - k) (lap old.start old.extent)) e)

front-cut : (slot length size : ℕ) (scan : Scanning) (before : List ℕ) → CanCut length size scan → AreInStep scan
    → SlotIsFront slot scan.running before
    → SlotIsFront slot (map (cut_slot (first_in length scan) (end_in length size scan)) scan.running)
    (before ++ range_with_len (first_in length scan) (end_in length size scan - first_in length scan))
front-cut slot length size scan before can in_step was query there =
    by_old (slice_get scan.running slot) refl (sym (slice_get-map (cut_slot (first_in length scan) (end_in length size scan)) scan.running slot) ∙ there)
  where
    by_old : (old : Option (Option Running)) → slice_get scan.running slot ≡ old
        → option_map (cut_slot (first_in length scan) (end_in length size scan)) old ≡ Some (Some query)
        → IsFront (before ++ range_with_len (first_in length scan) (end_in length size scan - first_in length scan)) query
    by_old None e is = absurd (cc is)
    by_old (Some None) e is = absurd (cc is)
    by_old (Some (Some old)) e is =
        let left : ℕ = old.left - covered (first_in length scan) (end_in length size scan) old.extent in
        let same : with_left left old ≡ Some query = cc is in
        front-left scan.position length (first_in length scan) (end_in length size scan) left old query before
        (cuts_one length size slot scan old in_step can e) (was old e) refl same

follows-cut : (slot length size : ℕ) (scan : Scanning) (before : List ℕ) → CanCut length size scan → AreInStep scan
    → SlotIsFront slot scan.running before → (t : Bool)
    → SlotIsFront slot (cond {A = Scanning} t (record {
      position = end_in length size scan;
      running = map (cut_slot (first_in length scan) (end_in length size scan)) scan.running;
    }) scan).running
    (before ++ cond t (range_with_len (first_in length scan) (end_in length size scan - first_in length scan)) [])
follows-cut slot length size scan before can in_step was true query there = front-cut slot length size scan before can in_step was query there
follows-cut slot length size scan before can in_step was false query there =
    ap (below query.extent) (append-nil before) ∙ was query there

follows-call : (slot : ℕ) (now : Followed) (call : Call) → CanCall call now.scan → Follows slot now → Follows slot (followed_by slot now call)
follows-call slot now (Started other star snapshot extent length) can follows = record {
  in_step = in_step-start other snapshot extent length star now.scan can follows.in_step;
  front = front-start slot other snapshot extent (first_of now.scan.position length) star now.scan.running now.positions
      (slice_get_within now.scan.running other None can.is_free) follows.front (eqb other slot) refl;
}
follows-call slot now (Stopped other) can follows = record {
  in_step = in_step-stop other now.scan follows.in_step;
  front = front-stop slot other now.scan.running now.positions can follows.front (eqb other slot) refl;
}
follows-call slot now (Cut length size) can follows = record {
  in_step = in_step-cut length size now.scan can follows.in_step;
  front = follows-cut slot length size now.scan now.positions can follows.in_step follows.front (some_run now.scan.running);
}

follows-all : (slot : ℕ) (calls : List Call) (now : Followed) → CanCallAll now.scan calls → Follows slot now → Follows slot (followed slot now calls)
follows-all slot [] now can follows = follows
follows-all slot (call ∷ calls) now can follows =
    follows-all slot calls (followed_by slot now call) can.1 (follows-call slot now call can.0 follows)

-- before any call
abbrev new : (slots : ℕ) → Followed
new slots = record { scan = new_scan slots; positions = [] }

follows-new : (slots slot : ℕ) → Follows slot (new slots)
follows-new slots slot = record {
  in_step = in_step-new slots;
  front = λ query there.
      let none : List (Option Running) = replicate slots None in
      let inside : slot < slots = let within = slice_get_within none slot (Some query) there in omega (arith, length-replicate {A = Option Running} slots None) in
      let some = get_or_from_slice_get none slot (Some query) None there in
      absurd (cc (some, get_or-replicate {A = Option Running} slots slot None None inside));
}

pub lap-running : (slots slot : ℕ) (calls : List Call) (query : Running) → CanCallAll (new_scan slots) calls
    → slice_get (followed slot (new slots) calls).scan.running slot ≡ Some (Some query)
    → below query.extent (followed slot (new slots) calls).positions ++ still_to_come query.left (lap query.start query.extent)
    ≡ lap query.start query.extent
lap-running slots slot calls query can there =
    let front = (follows-all slot calls (new slots) can (follows-new slots slot)).front query there in
    let whole : List ℕ = lap query.start query.extent in
    ap (λ xs. xs ++ still_to_come query.left whole) front
    ∙ ap (λ k. take (query.extent - query.left) whole ++ drop (k - query.left) whole) (length-lap query.start query.extent)
    ∙ take-append-drop (query.extent - query.left) whole

last-left : (position length first end left : ℕ) (query : Running) (before : List ℕ) → CutsOne position length first end query
    → IsFront before query → query.left - covered first end query.extent ≡ left → with_left left query ≡ None
    → below query.extent (before ++ range_with_len first (end - first)) ≡ lap query.start query.extent
last-left position length first end zero query before cuts was e over =
    let whole : List ℕ = lap query.start query.extent in
    step_taken position length first end query before cuts was
    ∙ ap (λ k. take (query.extent - k) whole) e
    ∙ take_all (query.extent - 0) whole (omega (arith, length-lap query.start query.extent))
last-left position length first end (suc left) query before cuts was e over = absurd (cc (over, with_left-some left query))

last-cut : (slot length size : ℕ) (scan : Scanning) (before : List ℕ) (query : Running) → CanCut length size scan → AreInStep scan
    → IsFront before query → slice_get scan.running slot ≡ Some (Some query) → (t : Bool)
    → slice_get (cond {A = Scanning} t (record {
      position = end_in length size scan;
      running = map (cut_slot (first_in length scan) (end_in length size scan)) scan.running;
    }) scan).running slot ≡ Some None
    → below query.extent (before ++ cond t (range_with_len (first_in length scan) (end_in length size scan - first_in length scan)) [])
    ≡ lap query.start query.extent
last-cut slot length size scan before query can in_step was there true over =
    let is : option_map (cut_slot (first_in length scan) (end_in length size scan)) (Some (Some query)) ≡ Some None =
    ap (option_map (cut_slot (first_in length scan) (end_in length size scan))) (sym there)
    ∙ sym (slice_get-map (cut_slot (first_in length scan) (end_in length size scan)) scan.running slot) ∙ over in
    let left : ℕ = query.left - covered (first_in length scan) (end_in length size scan) query.extent in
    let none : with_left left query ≡ None = cc is in
    last-left scan.position length (first_in length scan) (end_in length size scan) left query before
    (cuts_one length size slot scan query in_step can there) was refl none
last-cut slot length size scan before query can in_step was there false over = absurd (cc (there, over))

pub lap-last : (slots slot : ℕ) (calls : List Call) (query : Running) (length size : ℕ) → CanCallAll (new_scan slots) calls
    → slice_get (followed slot (new slots) calls).scan.running slot ≡ Some (Some query)
    → CanCut length size (followed slot (new slots) calls).scan
    → slice_get (after_cut length size (followed slot (new slots) calls).scan).running slot ≡ Some None
    → below query.extent ((followed slot (new slots) calls).positions ++ cut_positions length size (followed slot (new slots) calls).scan)
    ≡ lap query.start query.extent
lap-last slots slot calls query length size can there can_cut over =
    let now : Followed = followed slot (new slots) calls in
    let follows = follows-all slot calls (new slots) can (follows-new slots slot) in
    last-cut slot length size now.scan now.positions query can_cut follows.in_step (follows.front query there) there (some_run now.scan.running) over
