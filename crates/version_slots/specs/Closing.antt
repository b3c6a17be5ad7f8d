-- What a closed table has.
use Rattle.std.specs.Prelude.{◌≡◌, ◌≢◌, ℕ, ◌*◌, ◌<◌, ◌≤◌, suc, List, slice_index, Option, Some}
use mathlib.Core.Option.{some}
use lib.ListN.{get_elem?}
use Rattle.version_slots.specs.declared.view.Line.{Line}
use Rattle.version_slots.specs.declared.view.Old.{Old}
use Rattle.version_slots.specs.declared.view.View.{View}
use Rattle.version_slots.specs.Words.{head_word}
use Rattle.version_slots.specs.Histories.{StartsWith, EndsWith, lines_of, first_line}

-- What a closed table has: the payload of the whole history's last line, where the head says. The history begins with what the seat, and each that was joined into it, had seen, and their lines there are those that they installed
pub record Closing {P A : Type 0} (plain : P → A) (follows : ℕ → A → A → Type 0) (passes : ℕ) (opening : A) (v : View A) (words : List ℕ) (payloads : List (Option P)) : Type 0 where
  pub hist : List (Line A)
  pub last : Line A
  pub payload : P
  pub opens : get_elem? hist 0 ≡ some (first_line opening)
  pub linked : (i : ℕ) (l m : Line A) → get_elem? hist i ≡ some l → get_elem? hist (suc i) ≡ some m → follows m.number l.value m.value
  pub ends : EndsWith hist last
  pub head : slice_index words 0 ≡ head_word last.ticket last.slot
  pub near : last.slot < 18
  pub there : get_elem? payloads (last.slot * passes) ≡ some (Some payload)
  pub value : plain payload ≡ last.value
  pub seen : StartsWith hist v.seen
  pub mine : v.number ≢ 0 → lines_of v.number hist ≡ v.mine
  pub olds : (i : ℕ) (o : Old A) → get_elem? v.olds i ≡ some o → StartsWith hist o.seen × (o.number ≢ 0 → lines_of o.number hist ≡ o.mine)
  pub numbered : (i : ℕ) (l : Line A) → get_elem? hist (suc i) ≡ some l → (0 < l.number) × (l.number ≤ passes)
