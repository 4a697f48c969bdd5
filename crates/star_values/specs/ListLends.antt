-- What a list ends as, where its members were lent to be written.
use Rattle.std.specs.Prelude.{ℕ, List, length, slice_set, Option}
use Rattle.std.specs.List.{refill}
use Rattle.std.specs.Borrow.{Lends, LendsIf, MutBor, Fml, Array, RattleType}
use Rattle.star_values.specs.Roomy.{Roomy}
use Rattle.star_values.specs.Faded.{Faded}
use Rattle.star_values.specs.contracts.fading.Fading.{the_row as fading_layout}
use Rattle.star_values.specs.contracts.list_of.ListOf.{the_row as list_layout}
use Rattle.star_values.specs.contracts.list_with_room.ListWithRoom.{the_row as roomy_layout}

module _ (T : RattleType) where
  -- the list ends as the members that were last written, of which there are as many as before
  abbrev pub lends_members : MutBor (List T.Denot) → MutBor (List T.Denot) → Fml
  lends_members list members =
      Lends (list_layout T) (Array T 0) list members (refill (length list.now) list.now)

  -- the list ends with the member at the index as it was last written, or as
  -- it was where there is none
  abbrev pub lends_member : MutBor (List T.Denot) → ℕ → Option (MutBor T.Denot) → Fml
  lends_member list index member =
      LendsIf (list_layout T) T list member (slice_set list.now index) list.now

  -- the same of a list with room, whose room stays
  abbrev pub lends_roomy_members : MutBor (Roomy T.Denot) → MutBor (List T.Denot) → Fml
  lends_roomy_members list members =
      Lends (roomy_layout T) (Array T 0) list members
      (λ written.
      record {
        items = refill (length list.now.items) list.now.items written;
        room = list.now.room;
      })

  -- the same of a list whose front was let go, of which the rest is lent
  abbrev pub lends_fading_members : MutBor (Faded T.Denot) → MutBor (List T.Denot) → Fml
  lends_fading_members list members =
      Lends (fading_layout T) (Array T 0) list members
      (λ written.
      record {
        gone = list.now.gone;
        rest = refill (length list.now.rest) list.now.rest written;
        room = list.now.room;
      })
