-- Each step keeps the rule of the table.
use Rattle.std.proofs.Common.{◌≡◌, ◌≢◌, ℕ, suc, ◌+◌, ◌-◌, ◌≤◌, eqb, Bool, true, false, List, [], ◌∷◌, ◌++◌, length, get_or, set, All, Option, Some, unwrap_or, sym, refl, ap, ◌∙◌, subst, ⊎_elim, inl, inr, arith, true≢false, length-set, length-append}
use mathlib.Core.Logic.{dite}
use mathlib.Core.List.{IsPrefix}
use mathlib.Core.Option.{some, none, some-injective}
use mathlib.Core.Option as maybe
use native.Mathlib.Decide.{ℕ_discrete}
use lib.ListN.{get_elem?}
use lib.Seq.{set-get_or}
use prog.Atomic.{either}
use Rattle.std.proofs.lemmas.List.Elements.{All-cons}
use Rattle.atomic_table.specs.Table.{State, Me, Act, keeps, takes, gives, rest, stepped, Valid, carried_after, Allows, Splits, Joins, Final, Seen}
use Rattle.atomic_table.proofs.Lists.{at_set, set_here, set_else, set_again, at_longer, exchanged}
use Rattle.board_lock.specs.declared.view.View.{View}
use Rattle.board_lock.specs.declared.view.Parted.{Parted}
use Rattle.board_lock.specs.Views.{row_in, list_in, fixed_in, longer_of, spent_view, entered, left, split_view, new_view, parted_of, with_parted, having_seen, Finds, Keeps}
use Rattle.board_lock.specs.Rule.{one_if, seated, Stays, Leads, KnowsRightly, IsStateHome, IsBoard, TakesTurn, GivesBack, Looks, ComparesWith, Compares}
use Rattle.board_lock.proofs.ListLemmas.{begins-itself, begins-then, begins-both, longer-is, seated-set, seated-spent, seated-snoc, two-seats, there, snoc-at}

module _ {S : Type 0} where
  -- the seat noted this state, which it took or left
  abbrev noted : Bool → View S → S → View S
  noted b view state = record view { inside = b; last = Some state; seen = Some state }

  -- a seat that is live was not joined
  apart : (views : List (View S)) (k n : ℕ) (view : View S) → get_elem? views k ≡ some view → view.live ≡ true → get_elem? views n ≡ some spent_view → n ≢ k
  apart views k n view at live spent e =
      let same : view ≡ spent_view = some-injective view spent_view (sym at ∙ (ap (λ (i : ℕ). get_elem? views i) (sym e) ∙ spent)) in
      let clash : ◌≡◌ {A = ℕ} 1 0 = ap one_if (sym live ∙ ap (λ (u : View S). u.live) same) in
      omega arith

  -- the state stays where it is, where one view changes in other things
  place-set : (turn : ℕ) (homes : List (maybe.Option (Option S))) (views : List (View S)) (home : S) (k : ℕ) (v w : View S) → get_elem? views k ≡ some v → v.live ≡ w.live → v.inside ≡ w.inside → v.last ≡ w.last
      → IsStateHome turn homes views home → IsStateHome turn homes (set views k w) home
  place-set turn homes views home k v w at live inside last place = ⊎_elim (λ free. inl free) (λ t.
      let held = t.4 in
      inr (dite (ℕ_discrete t.0 k)
      (λ e. let same : v ≡ t.1 = some-injective v t.1 (sym at ∙ (ap (λ (i : ℕ). get_elem? views i) (sym e) ∙ held.seat)) in (
        k,
        w,
        t.2 ∙ ap suc e,
        t.3,
        record {
          seat = set_here views k w (there views k v at);
          live = sym live ∙ (ap (λ (u : View S). u.live) same ∙ held.live);
          inside = sym inside ∙ (ap (λ (u : View S). u.inside) same ∙ held.inside);
          last = sym last ∙ (ap (λ (u : View S). u.last) same ∙ held.last);
        },
      ))
      (λ other. (t.0, t.1, t.2, t.3, record { seat = set_else views k t.0 w other ∙ held.seat; live = held.live; inside = held.inside; last = held.last })))) place

  -- where one seat alone is live, and is outside, no seat is inside
  no-other : (views : List (View S)) (k n : ℕ) (v w : View S) → k ≡ 0 → get_elem? views k ≡ some v → v.live ≡ true → v.inside ≡ false → get_elem? views n ≡ some w → w.live ≡ true → w.inside ≡ true → seated views ≡ 1 → ⊥
  no-other views k n v w here at live outside at' live' inside one = dite (ℕ_discrete n 0)
      (λ e. let same : w ≡ v = some-injective w v (sym at' ∙ (ap (λ (i : ℕ). get_elem? views i) (e ∙ sym here) ∙ at)) in true≢false (sym inside ∙ (ap (λ (u : View S). u.inside) same ∙ outside)))
      (λ other. let two = two-seats views (n - 1) v w (ap (λ (i : ℕ). get_elem? views i) (sym here) ∙ at) live (ap (λ (i : ℕ). get_elem? views i) (omega arith) ∙ at') live' in omega arith)

-- nothing is said of no joined seats
All-none : {A : Type 0} (P : A → Type 0) → All P []
All-none P k d h = absurd (omega arith)

module _ {S Row Entry Fixed : Type 0} (row : S → ℕ → Row) (empty : Row) (commits : S → List Entry) (fixed : S → Fixed) where
  abbrev Table : Type 0
  Table = State (Option S) (View S)

  abbrev Keeping : Table → Type 0
  Keeping = IsBoard row empty commits fixed

  abbrev Fits : ℕ → List (View S) → S → ℕ → View S → Type 0
  Fits = KnowsRightly row empty commits fixed

  abbrev Remains : List (View S) → S → Parted S → Type 0
  Remains = Stays row empty commits

  -- what a live seat knows is what it will find
  pub suits-finds : (turn : ℕ) (views : List (View S)) (home : S) (k : ℕ) (v : View S) → Fits turn views home k v → Finds row empty commits fixed v home
  suits-finds turn views home k v s = record {
    own = subst (λ (n : ℕ). row home n ≡ row_in row empty v.last n) (sym s.number) s.own;
    goes_on = s.goes_on;
    settled = s.settled;
    joined = λ j d h. (s.parted j d h).own;
  }

  -- what the seat k makes of turn and state, so that all others still suit
  record Moves (turn turn' : ℕ) (home home' : S) (k : ℕ) : Type 0 where
    others : (j : ℕ) → j ≢ k → row home' j ≡ row home j
    goes_on : IsPrefix (commits home) (commits home')
    settled : Some (fixed home) ≡ Some (fixed home')
    turned : (j : ℕ) → j ≢ k → turn ≡ suc j → turn' ≡ suc j

  remains : (turn turn' : ℕ) (views : List (View S)) (home home' : S) (k : ℕ) (v w : View S) → get_elem? views k ≡ some v → v.live ≡ true → Moves turn turn' home home' k
      → (p : Parted S) → Remains views home p → Remains (set views k w) home' p
  remains turn turn' views home home' k v w at live m p s =
      let other : p.number ≢ k = apart views k p.number v at live s.spent in record {
        spent = set_else views k p.number w other ∙ s.spent;
        own = m.others p.number other ∙ s.own;
        goes_on = begins-then _ _ _ s.goes_on m.goes_on;
        spare = λ i h. s.spare i (subst (λ (n : ℕ). n ≤ i) (length-set views k w) h);
      }

  leads-set : (views : List (View S)) (k : ℕ) (v w d e : View S) → get_elem? views k ≡ some v → v.live ≡ w.live → d.made ≡ e.made → length d.joined ≡ length e.joined → Leads views d → Leads (set views k w) e
  leads-set views k v w d e at live made joined l =
      let long = length-set views k w in let count = seated-set views k v w at live in let was = l.made in let sum = l.counted in record { made = omega arith; counted = omega arith }

  suits-others : (turn turn' : ℕ) (views : List (View S)) (home home' : S) (k : ℕ) (v w : View S) → get_elem? views k ≡ some v → v.live ≡ true → w.live ≡ true → Moves turn turn' home home' k
      → (j : ℕ) (d : View S) → j ≢ k → Fits turn views home j d → Fits turn' (set views k w) home' j d
  suits-others turn turn' views home home' k v w at live live' m j d other s = record {
    number = s.number;
    turned = λ inside. m.turned j other (s.turned inside);
    own = m.others j other ∙ s.own;
    goes_on = begins-then _ _ _ s.goes_on m.goes_on;
    settled = s.settled ∙ m.settled;
    spare = λ i h. s.spare i (subst (λ (n : ℕ). n ≤ i) (length-set views k w) h);
    parted = λ i p h. remains turn turn' views home home' k v w at live m _ (s.parted i p h);
    leads = λ z. leads-set views k v w d d at (live ∙ sym live') refl refl (s.leads z);
  }

  suits-noted : (turn turn' : ℕ) (views : List (View S)) (home home' : S) (k : ℕ) (v : View S) (b : Bool) → get_elem? views k ≡ some v → v.live ≡ true → Moves turn turn' home home' k
      → (b ≡ true → turn' ≡ suc k) → ((j : ℕ) → length views ≤ j → row home' j ≡ empty) → Fits turn views home k v → Fits turn' (set views k (noted b v home')) home' k (noted b v home')
  suits-noted turn turn' views home home' k v b at live m turned unmade s =
      let w : View S = noted b v home' in record {
        number = s.number;
        turned = turned;
        own = refl;
        goes_on = begins-itself (commits home');
        settled = refl;
        spare = λ i h. let less = subst (λ (n : ℕ). n ≤ i) (length-set views k w) h in record { last = unmade i less; seen = unmade i less };
        parted = λ i p h. remains turn turn' views home home' k v w at live m _ (s.parted i p h);
        leads = λ z. leads-set views k v w v w at refl refl refl (s.leads z);
      }

  -- one seat's view, the turn and the state change
  moved : (s : Table) (r : Keeping s) (k : ℕ) (v w : View S) (turn' : ℕ) (home' : S) (homes' : List (maybe.Option (Option S))) → get_elem? s.views k ≡ some v → v.live ≡ true → w.live ≡ true
      → Moves r.turn turn' r.home home' k → ((j : ℕ) → length s.views ≤ j → row home' j ≡ empty) → Fits turn' (set s.views k w) home' k w → IsStateHome turn' homes' (set s.views k w) home'
      → Keeping record { words = set s.words 0 turn'; homes = homes'; views = set s.views k w }
  moved s r k v w turn' home' homes' at live live' m unmade mine place = record {
    turn = turn';
    home = home';
    words = ap (λ (ws : List ℕ). set ws 0 turn') r.words;
    place = place;
    each = λ j d e alive. ⊎_elim (λ (t : (j ≡ k) × (w ≡ d)). subst (λ (z : ℕ × View S). Fits turn' (set s.views k w) home' z.0 z.1) (λ i. (sym t.0 i, t.1 i)) mine)
        (λ (t : (j ≢ k) × (get_elem? s.views j ≡ some d)). suits-others r.turn turn' s.views r.home home' k v w at live live' m j d t.0 (r.each j d t.1 alive)) (at_set s.views k j w d e);
    unmade = λ j h. unmade j (subst (λ (n : ℕ). n ≤ j) (length-set s.views k w) h);
  }

  -- a step that changes nothing
  unmoved : (s : Table) (r : Keeping s) (k : ℕ) (v : View S) (cs : List (ℕ × Option S)) → get_elem? s.views k ≡ some v → Keeping (stepped s 0 (get_or s.words 0 0) k cs v keeps)
  unmoved s r k v cs at =
      subst (λ (ws : List ℕ). Keeping record { words = ws; homes = s.homes; views = set s.views k v }) (sym (set-get_or s.words 0 0))
      (subst (λ (vs : List (View S)). Keeping record { words = s.words; homes = s.homes; views = vs }) (sym (set_again s.views k v at)) r)

  enters-free : (s : Table) (r : Keeping s) (k : ℕ) (v : View S) (number : ℕ) → number ≡ k → get_elem? s.views k ≡ some v → v.live ≡ true → r.turn ≡ 0 → s.homes ≡ some (Some r.home) ∷ []
      → Keeping record { words = set s.words 0 (number + 1); homes = set s.homes 0 none; views = set s.views k (entered v r.home) }
  enters-free s r k v number is at live free homes =
      let mine = r.each k v at live in
      let turn' : number + 1 ≡ suc k = omega arith in
      let m : Moves r.turn (number + 1) r.home r.home k = record { others = λ j other. refl; goes_on = begins-itself (commits r.home); settled = refl; turned = λ j other t. absurd (omega arith) } in
      moved s r k v (entered v r.home) (number + 1) r.home (set s.homes 0 none) at live live m r.unmade (suits-noted r.turn (number + 1) s.views r.home r.home k v true at live m (λ _. turn') r.unmade mine)
      (inr (k, entered v r.home, turn', ap (λ (hs : List (maybe.Option (Option S))). set hs 0 none) homes, record { seat = set_here s.views k (entered v r.home) (there s.views k v at); live = live; inside = refl; last = refl }))

  enters-next : (slots id : ℕ) (me : Me (Option S) (View S)) (number : ℕ) → me.0.live ≡ true → me.0.number ≡ number → me.1 ≡ []
      → Allows Keeping slots id me 0 (λ n. either (eqb n 0) (number + 1) n) (TakesTurn row empty commits fixed me)
  enters-next slots id me number live is bare s r deep at small =
      let mine = r.each id me.0 at live in
      let here : number ≡ id = sym is ∙ mine.number in
      let found : get_or s.words 0 0 ≡ r.turn = ap (λ (ws : List ℕ). get_or ws 0 0) r.words in
      exchanged (get_or s.words 0 0) 0 (number + 1)
      (λ n. (w : View S) × (a : Act (Option S)) × Valid s.homes me.1 a × Keeping (stepped s 0 n id me.1 w a) × TakesTurn row empty commits fixed me (get_or s.words 0 0) (w, carried_after me.1 a))
      (λ free. ⊎_elim
      (λ (p : (r.turn ≡ 0) × (s.homes ≡ some (Some r.home) ∷ [])). (
        entered me.0 r.home,
        takes 0 (Some r.home),
        ap (λ (hs : List (maybe.Option (Option S))). get_elem? hs 0) p.1,
        enters-free s r id me.0 number here at live p.0 p.1,
        (
          (λ _. (r.home, ap (λ (cs : List (ℕ × Option S)). (entered me.0 r.home, (0, Some r.home) ∷ cs)) bare, suits-finds r.turn s.views r.home id me.0 mine)),
          λ other. absurd (other free),
        ),
      ))
      (λ t. absurd (let turn = t.2 in omega arith)) r.place)
      (λ other. (me.0, keeps, tt, unmoved s r id me.0 me.1 at, ((λ free. absurd (other free)), λ _. refl)))

  -- the turn is taken as 1 more than the seat's number
  pub enters : (slots id : ℕ) (me : Me (Option S) (View S)) (number turn : ℕ) → turn ≡ number + 1 → me.0.live ≡ true → me.0.number ≡ number → me.1 ≡ []
      → Allows Keeping slots id me 0 (λ n. either (eqb n 0) turn n) (TakesTurn row empty commits fixed me)
  enters slots id me number turn next live is bare =
      subst (λ (t : ℕ). Allows Keeping slots id me 0 (λ n. either (eqb n 0) t n) (TakesTurn row empty commits fixed me)) (sym next) (enters-next slots id me number live is bare)

  gives-home : (s : Table) (r : Keeping s) (k : ℕ) (v : View S) (state : S) → get_elem? s.views k ≡ some v → v.live ≡ true → r.turn ≡ suc k → s.homes ≡ none ∷ [] → v.last ≡ Some r.home → Keeps row empty commits fixed v state
      → Keeping record { words = set s.words 0 0; homes = set s.homes 0 (some (Some state)); views = set s.views k (left v state) }
  gives-home s r k v state at live turn homes last kept =
      let mine = r.each k v at live in
      let m : Moves r.turn 0 r.home state k = record {
        others = λ j other. kept.others j (λ e. other (e ∙ mine.number)) ∙ ap (λ (o : Option S). row_in row empty o j) last;
        goes_on = subst (λ (o : Option S). IsPrefix (list_in commits o) (commits state)) last kept.goes_on;
        settled = sym (ap (fixed_in fixed) last) ∙ kept.settled;
        turned = λ j other t. absurd (other (let same : suc j ≡ suc k = sym t ∙ turn in omega arith));
      } in
      let unmade : (j : ℕ) → length s.views ≤ j → row state j ≡ empty = λ j h. m.others j (λ e. let inside = there s.views k v at in absurd (omega arith)) ∙ r.unmade j h in
      moved s r k v (left v state) 0 state (set s.homes 0 (some (Some state))) at live live m unmade (suits-noted r.turn 0 s.views r.home state k v false at live m (λ t. absurd (true≢false (sym t))) unmade mine)
      (inl (refl, ap (λ (hs : List (maybe.Option (Option S))). set hs 0 (some (Some state))) homes))

  -- the state in the slot that a seat has out
  abbrev held : S → List (ℕ × Option S) → S
  held other [] = other
  held other (x ∷ xs) = unwrap_or x.1 other

  gives-free : (slots id : ℕ) (me : Me (Option S) (View S)) (state : S) → me.0.live ≡ true → me.0.inside ≡ true → me.1 ≡ (0, Some state) ∷ [] → Keeps row empty commits fixed me.0 state
      → Allows Keeping slots id me 0 (λ _. 0) (λ _ after. GivesBack me after)
  gives-free slots id me state live inside out kept s r deep at small =
      let mine = r.each id me.0 at live in
      let turn : r.turn ≡ suc id = mine.turned inside in
      ⊎_elim (λ free. absurd (let none_has = free.0 in omega arith)) (λ t.
      let holder : t.0 ≡ id = (let other = t.2 in omega arith) in
      let same : t.1 ≡ me.0 = some-injective t.1 me.0 (sym t.4.seat ∙ (ap (λ (i : ℕ). get_elem? s.views i) holder ∙ at)) in
      let last : me.0.last ≡ Some r.home = ap (λ (u : View S). u.last) (sym same) ∙ t.4.last in (
        left me.0 state,
        gives,
        tt,
        subst (λ (hs : List (maybe.Option (Option S))). Keeping record { words = set s.words 0 0; homes = hs; views = set s.views id (left me.0 state) })
            (ap (λ (cs : List (ℕ × Option S)). Rattle.atomic_table.specs.Table.put_back s.homes cs) (sym out)) (gives-home s r id me.0 state at live turn t.3 last kept),
        λ found now. let given : state ≡ found = ap (held state) (sym out ∙ now) in
            ap (λ (z : S). (left me.0 z, rest me.1)) given ∙ ap (λ (cs : List (ℕ × Option S)). (left me.0 found, rest cs)) now,
      )) r.place

  -- the turn is given as 0
  pub gives-turn : (slots id : ℕ) (me : Me (Option S) (View S)) (state : S) (turn : ℕ) → turn ≡ 0 → me.0.live ≡ true → me.0.inside ≡ true → me.1 ≡ (0, Some state) ∷ [] → Keeps row empty commits fixed me.0 state
      → Allows Keeping slots id me 0 (λ _. turn) (λ _ after. GivesBack me after)
  gives-turn slots id me state turn free live inside out kept =
      subst (λ (t : ℕ). Allows Keeping slots id me 0 (λ _. t) (λ _ after. GivesBack me after)) (sym free) (gives-free slots id me state live inside out kept)

  pub looks : (slots id : ℕ) (me : Me (Option S) (View S)) → me.0.live ≡ true → me.0.number ≡ 0 → Allows Keeping slots id me 0 (λ n. n) (λ _ after. Looks row empty me after)
  looks slots id me live first s r deep at small =
      let mine = r.each id me.0 at live in
      let made = (mine.leads (sym mine.number ∙ first)).made in
      let spare = mine.spare me.0.made (omega arith) in
      (me.0, keeps, tt, unmoved s r id me.0 me.1 at, (refl, spare))

  -- a joined seat stays so where a seat is made
  remains-split : (views : List (View S)) (home : S) (k : ℕ) (v w new : View S) → get_elem? views k ≡ some v → v.live ≡ true → (p : Parted S) → Remains views home p → Remains (set views k w ++ new ∷ []) home p
  remains-split views home k v w new at live p s =
      let long = length-append (set views k w) (new ∷ []) in let same = length-set views k w in record {
        spent = at_longer (set views k w) (new ∷ []) p.number spent_view (set_else views k p.number w (apart views k p.number v at live s.spent) ∙ s.spent);
        own = s.own;
        goes_on = s.goes_on;
        spare = λ i h. s.spare i (omega arith);
      }

  leads-split : (views : List (View S)) (k : ℕ) (v : View S) → get_elem? views k ≡ some v → v.live ≡ true → Leads views v → Leads (set views k (split_view v) ++ new_view v ∷ []) (split_view v)
  leads-split views k v at live l =
      let w : View S = split_view v in let new : View S = new_view v in
      let long = length-append (set views k w) (new ∷ []) in let same = length-set views k w in
      let count = seated-set views k v w at refl in let more = seated-snoc (set views k w) new refl in
      let was = l.made in let sum = l.counted in
      record { made = omega arith; counted = omega arith }

  -- a seat suits among other seats, of which there are no fewer, with another count of those made and another list of those joined
  suits-among : (turn : ℕ) (views views' : List (View S)) (home : S) (k : ℕ) (v : View S) (made : ℕ) (joined : List (Parted S)) → ((i : ℕ) → length views' ≤ i → length views ≤ i)
      → All (Remains views' home) joined → (k ≡ 0 → Leads views' (record v { made = made; joined = joined })) → Fits turn views home k v → Fits turn views' home k (record v { made = made; joined = joined })
  suits-among turn views views' home k v made joined less parted leads s = record {
    number = s.number;
    turned = s.turned;
    own = s.own;
    goes_on = s.goes_on;
    settled = s.settled;
    spare = λ i h. let empty_row = s.spare i (less i h) in record { last = empty_row.last; seen = empty_row.seen };
    parted = parted;
    leads = leads;
  }

  -- all seats suit where the first one made another
  suits-split : (turn : ℕ) (views : List (View S)) (home : S) (k : ℕ) (v : View S) → get_elem? views k ≡ some v → v.live ≡ true → k ≡ 0 → Fits turn views home k v → ((j : ℕ) → length views ≤ j → row home j ≡ empty)
      → ((j : ℕ) (d : View S) → get_elem? views j ≡ some d → d.live ≡ true → Fits turn views home j d)
      → (j : ℕ) (d : View S) → get_elem? (set views k (split_view v) ++ new_view v ∷ []) j ≡ some d → d.live ≡ true → Fits turn (set views k (split_view v) ++ new_view v ∷ []) home j d
  suits-split turn views home k v at live first mine unmade each j d e alive =
      let w : View S = split_view v in let new : View S = new_view v in
      let views' : List (View S) = set views k w ++ new ∷ [] in
      let long = length-append (set views k w) (new ∷ []) in let same = length-set views k w in
      let less : (i : ℕ) → length views' ≤ i → length views ≤ i = λ i h. omega arith in
      let some_seat = there views k v at in
      ⊎_elim (λ old. ⊎_elim
      (λ (t : (j ≡ k) × (w ≡ d)). subst (λ (z : ℕ × View S). Fits turn views' home z.0 z.1) (λ i. (sym t.0 i, t.1 i))
      (suits-among turn views views' home k v w.made v.joined less
      (λ i p h. remains-split views home k v w new at live _ (mine.parted i p h)) (λ z. leads-split views k v at live (mine.leads z)) mine))
      (λ (t : (j ≢ k) × (get_elem? views j ≡ some d)). let s = each j d t.1 alive in
      suits-among turn views views' home j d d.made d.joined less
      (λ i p h. remains-split views home k v w new at live _ (s.parted i p h)) (λ z. absurd (t.0 (z ∙ sym first))) s) (at_set views k j w d old))
      (λ (t : (j ≡ length (set views k w)) × (new ≡ d)).
      let made = (mine.leads first).made in
      let place : j ≡ v.made = (let here = t.0 in omega arith) in
      let spare = mine.spare j (let here = t.0 in omega arith) in
      subst (λ (z : View S). Fits turn views' home j z) t.1 record {
        number = sym place;
        turned = λ inside. absurd (true≢false (sym inside));
        own = unmade j (let here = t.0 in omega arith) ∙ sym spare.last;
        goes_on = mine.goes_on;
        settled = mine.settled;
        spare = λ i h. let empty_row = mine.spare i (less i h) in record { last = empty_row.last; seen = empty_row.seen };
        parted = All-none (Remains views' home);
        leads = λ z. absurd (let here = t.0 in omega arith);
      }) (snoc-at (set views k w) new d j e)

  place-longer : (turn : ℕ) (homes : List (maybe.Option (Option S))) (views more : List (View S)) (home : S) → IsStateHome turn homes views home → IsStateHome turn homes (views ++ more) home
  place-longer turn homes views more home place = ⊎_elim (λ free. inl free) (λ t. inr (t.0, t.1, t.2, t.3, record { seat = at_longer views more t.0 t.1 t.4.seat; live = t.4.live; inside = t.4.inside; last = t.4.last })) place

  pub splits : (id : ℕ) (v : View S) → v.live ≡ true → v.number ≡ 0 → Splits Keeping id v (split_view v) (new_view v)
  splits id v live first s r at =
      let mine = r.each id v at live in
      let here : id ≡ 0 = sym mine.number ∙ first in record {
        turn = r.turn;
        home = r.home;
        words = r.words;
        place = place-longer r.turn s.homes (set s.views id (split_view v)) (new_view v ∷ []) r.home (place-set r.turn s.homes s.views r.home id v (split_view v) at refl refl refl r.place);
        each = suits-split r.turn s.views r.home id v at live here mine r.unmade r.each;
        unmade = λ j h. r.unmade j (let long = length-append (set s.views id (split_view v)) (new_view v ∷ []) in let same = length-set s.views id (split_view v) in omega arith);
      }

  -- a joined seat stays so where another is joined
  remains-join : (views : List (View S)) (home : S) (k other : ℕ) (v w both : View S) → get_elem? views k ≡ some v → v.live ≡ true → get_elem? views other ≡ some w → w.live ≡ true
      → (p : Parted S) → Remains views home p → Remains (set (set views k both) other spent_view) home p
  remains-join views home k other v w both at live at' live' p s =
      let long = length-set (set views k both) other spent_view in let same = length-set views k both in record {
        spent = set_else (set views k both) other p.number spent_view (apart views other p.number w at' live' s.spent) ∙ (set_else views k p.number both (apart views k p.number v at live s.spent) ∙ s.spent);
        own = s.own;
        goes_on = s.goes_on;
        spare = λ i h. s.spare i (omega arith);
      }

  leads-join : (views : List (View S)) (k other : ℕ) (v w : View S) → get_elem? views k ≡ some v → get_elem? (set views k (with_parted v w)) other ≡ some w → w.live ≡ true → Leads views v
      → Leads (set (set views k (with_parted v w)) other spent_view) (with_parted v w)
  leads-join views k other v w at at' live' l =
      let both : View S = with_parted v w in
      let long = length-set (set views k both) other spent_view in let same = length-set views k both in
      let count = seated-set views k v both at refl in let less = seated-spent (set views k both) other w spent_view at' live' refl in
      let was = l.made in let sum = l.counted in
      record { made = omega arith; counted = omega arith }

  -- all seats suit where the first one joined another
  suits-join : (turn : ℕ) (views : List (View S)) (home : S) (k other : ℕ) (v w : View S) → get_elem? views k ≡ some v → v.live ≡ true → k ≡ 0 → other ≢ k → get_elem? (set views k (with_parted v w)) other ≡ some w
      → w.live ≡ true → ((j : ℕ) (d : View S) → get_elem? views j ≡ some d → d.live ≡ true → Fits turn views home j d)
      → (j : ℕ) (d : View S) → get_elem? (set (set views k (with_parted v w)) other spent_view) j ≡ some d → d.live ≡ true → Fits turn (set (set views k (with_parted v w)) other spent_view) home j d
  suits-join turn views home k other v w at live first differs at' live' each j d e alive =
      let both : View S = with_parted v w in
      let views' : List (View S) = set (set views k both) other spent_view in
      let long = length-set (set views k both) other spent_view in let same = length-set views k both in
      let less : (i : ℕ) → length views' ≤ i → length views ≤ i = λ i h. omega arith in
      let there' : get_elem? views other ≡ some w = sym (set_else views k other both differs) ∙ at' in
      let mine = each k v at live in
      let theirs = each other w there' live' in
      let remain : (p : Parted S) → Remains views home p → Remains views' home p = remains-join views home k other v w both at live there' live' in
      let parted : Remains views' home (parted_of w) = record {
        spent = ap (λ (i : ℕ). get_elem? views' i) theirs.number ∙ set_here (set views k both) other spent_view (there (set views k both) other w at');
        own = subst (λ (i : ℕ). row home i ≡ row_in row empty w.last i) (sym theirs.number) theirs.own;
        goes_on = theirs.goes_on;
        spare = λ i h. (theirs.spare i (less i h)).seen;
      } in
      ⊎_elim (λ (t : (j ≡ other) × (spent_view ≡ d)). absurd (true≢false (sym alive ∙ ap (λ (u : View S). u.live) (sym t.1))))
      (λ (t : (j ≢ other) × (get_elem? (set views k both) j ≡ some d)). ⊎_elim
      (λ (t : (j ≡ k) × (both ≡ d)). subst (λ (z : ℕ × View S). Fits turn views' home z.0 z.1) (λ i. (sym t.0 i, t.1 i))
      (suits-among turn views views' home k v v.made (parted_of w ∷ v.joined) less
      (All-cons (Remains views' home) (parted_of w) v.joined parted (λ i p h. remain _ (mine.parted i p h)))
      (λ z. leads-join views k other v w at at' live' (mine.leads z)) mine))
      (λ (t : (j ≢ k) × (get_elem? views j ≡ some d)). let s = each j d t.1 alive in
      suits-among turn views views' home j d d.made d.joined less
      (λ i p h. remain _ (s.parted i p h)) (λ z. absurd (t.0 (z ∙ sym first))) s) (at_set views k j both d t.1)) (at_set (set views k both) other j spent_view d e)

  -- the state stays where it is, where a seat that is outside is spent
  place-spent : (turn : ℕ) (homes : List (maybe.Option (Option S))) (views : List (View S)) (home : S) (k : ℕ) (w : View S) → get_elem? views k ≡ some w → w.inside ≡ false
      → IsStateHome turn homes views home → IsStateHome turn homes (set views k spent_view) home
  place-spent turn homes views home k w at outside place = ⊎_elim (λ free. inl free) (λ t.
      let other : t.0 ≢ k = (λ e. let same : t.1 ≡ w = some-injective t.1 w (sym t.4.seat ∙ (ap (λ (i : ℕ). get_elem? views i) e ∙ at)) in
      absurd (true≢false (sym t.4.inside ∙ (ap (λ (u : View S). u.inside) same ∙ outside)))) in
      inr (t.0, t.1, t.2, t.3, record { seat = set_else views k t.0 spent_view other ∙ t.4.seat; live = t.4.live; inside = t.4.inside; last = t.4.last })) place

  pub joins : (id other : ℕ) (v w : View S) → v.live ≡ true → v.number ≡ 0 → w.live ≡ true → w.inside ≡ false → Joins Keeping id v other w (with_parted v w) spent_view
  joins id other v w live first live' outside s r at differs at' =
      let mine = r.each id v at live in
      let here : id ≡ 0 = sym mine.number ∙ first in
      let both : View S = with_parted v w in record {
        turn = r.turn;
        home = r.home;
        words = r.words;
        place = place-spent r.turn s.homes (set s.views id both) r.home other w at' outside (place-set r.turn s.homes s.views r.home id v both at refl refl refl r.place);
        each = suits-join r.turn s.views r.home id other v w at live here differs at' live' r.each;
        unmade = λ j h. r.unmade j (let long = length-set (set s.views id both) other spent_view in let same = length-set s.views id both in omega arith);
      }

  -- what the first seat has seen becomes that of the seat which it joined last, where that is longer
  compares-with : (s : Table) (r : Keeping s) (k : ℕ) (v : View S) (cs : List (ℕ × Option S)) → get_elem? s.views k ≡ some v → v.live ≡ true → (ps : List (Parted S)) → v.joined ≡ ps
      → (w : View S) × Keeping (stepped s 0 (get_or s.words 0 0) k cs w keeps) × ComparesWith commits v ps w
  compares-with s r k v cs at live [] none_joined = (v, unmoved s r k v cs at, refl)
  compares-with s r k v cs at live (p ∷ ps) last_joined =
      let mine = r.each k v at live in
      let theirs = subst (λ (l : List (Parted S)). All (Remains s.views r.home) l) last_joined mine.parted 0 p (omega arith) in
      let seen : Option S = longer_of commits v.seen p.seen in
      let w : View S = having_seen v seen in
      let begins = begins-both commits v.seen p.seen (commits r.home) mine.goes_on theirs.goes_on in
      let same = length-set s.views k w in
      let m : Moves r.turn r.turn r.home r.home k = record { others = λ j other. refl; goes_on = begins-itself (commits r.home); settled = refl; turned = λ j other t. t } in
      let suits : Fits r.turn (set s.views k w) r.home k w = record {
        number = mine.number;
        turned = mine.turned;
        own = mine.own;
        goes_on = begins.2;
        settled = mine.settled;
        spare = λ i h. let less : length s.views ≤ i = omega arith in record { last = (mine.spare i less).last; seen = longer-is commits (λ (o : Option S). row_in row empty o i ≡ empty) v.seen p.seen (mine.spare i less).seen (theirs.spare i less) };
        parted = λ i q h. remains r.turn r.turn s.views r.home r.home k v w at live m _ (mine.parted i q h);
        leads = λ z. leads-set s.views k v w v w at refl refl refl (mine.leads z);
      } in
      let found : get_or s.words 0 0 ≡ r.turn = ap (λ (ws : List ℕ). get_or ws 0 0) r.words in (
        w,
        subst (λ (n : ℕ). Keeping record { words = set s.words 0 n; homes = s.homes; views = set s.views k w }) (sym found)
            (moved s r k v w r.turn r.home s.homes at live live m r.unmade suits (place-set r.turn s.homes s.views r.home k v w at refl refl refl r.place)),
        (refl, record { mine = begins.0; others = begins.1 }),
      )

  pub compares : (slots id : ℕ) (me : Me (Option S) (View S)) → me.0.live ≡ true → Allows Keeping slots id me 0 (λ n. n) (λ _ after. Compares commits me after)
  compares slots id me live s r deep at small = let t = compares-with s r id me.0 me.1 at live me.0.joined refl in (t.0, keeps, tt, t.1, (t.2, refl))

  -- where all others were joined, the state is in its slot
  free-at-last : (s : Table) (r : Keeping s) (k : ℕ) (v : View S) → get_elem? s.views k ≡ some v → v.live ≡ true → v.number ≡ 0 → v.inside ≡ false → length v.joined + 1 ≡ v.made → s.homes ≡ some (Some r.home) ∷ []
  free-at-last s r k v at live first outside alone =
      let mine = r.each k v at live in
      let here : k ≡ 0 = sym mine.number ∙ first in
      let leads = mine.leads here in let made = leads.made in let count = leads.counted in
      ⊎_elim (λ (free : (r.turn ≡ 0) × (s.homes ≡ some (Some r.home) ∷ [])). free.1) (λ t. absurd (no-other s.views k t.0 v t.1 here at live outside t.4.seat t.4.live t.4.inside (omega arith))) r.place

  pub closes : (id : ℕ) (v : View S) (words : List ℕ) (slots : List (Option S)) → v.live ≡ true → v.number ≡ 0 → v.inside ≡ false → length v.joined + 1 ≡ v.made → Final (Seen Keeping id v) words slots
      → (home : S) × (get_elem? slots 0 ≡ some (Some home)) × Finds row empty commits fixed v home × ((k : ℕ) → v.made ≤ k → row home k ≡ empty)
  closes id v words slots live first outside alone t =
      let s : Table = t.0 in let r : Keeping s = t.1.0 in let at = t.1.1 in
      let mine = r.each id v at live in
      let made = (mine.leads (sym mine.number ∙ first)).made in
      let homes = free-at-last s r id v at live first outside alone in
      (r.home, t.4 0 (Some r.home) (ap (λ (hs : List (maybe.Option (Option S))). get_elem? hs 0) homes), suits-finds r.turn s.views r.home id v mine, λ k h. r.unmade k (omega arith))
