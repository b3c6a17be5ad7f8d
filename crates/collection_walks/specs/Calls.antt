-- What the calls on walks answer, and the walks after them.
use Rattle.std.specs.Prelude.{ℕ, Option, Some, None, Result, Ok, Err}
use Rattle.plain_model.specs.declared.plain.Elem.{Elem}
use Rattle.plain_model.specs.declared.history.Refusal.{Refusal}
use Rattle.plain_model.specs.declared.history.Refusal.TheVariants as refusals
use Rattle.plain_model.specs.Names.{Name}
use Rattle.plain_model.specs.Locals.{Handle, walk_refusal}
use Rattle.plain_model.specs.Places.{Pool, Taking, take_place, Rest, next, reset, content_at, with_owner, without_owner, WalkWhy, rest_if_unchanged, current_of}
use Rattle.enumerators.specs.declared.walk.Walk.{Walk}

-- the walk as the plain model's handle, over the builder of this name, or over none
abbrev pub handle : Walk → Option Name → Handle
handle w over = record { place = w.owner.place; number = w.owner.number; made = w.made; over = over }

-- what a call answers, and the walks after it
pub record Called (A : Type 0) : Type 0 where
  pub answer : Result A Refusal
  pub walks : Pool (Rest Elem)

abbrev pub calls : {A : Type 0} → Result A Refusal → Pool (Rest Elem) → Called A
calls answer walks = record { answer = answer; walks = walks }

-- ---- at the walk's place

-- what a walk has at its place, where the place is its own
abbrev pub own_rest : Walk → Pool (Rest Elem) → Option (Rest Elem)
own_rest w walks = content_at w.owner.place w.owner.number walks.places

-- the same, where what is walked has not changed since the walk started
abbrev pub unchanged_rest : Walk → ℕ → Pool (Rest Elem) → Result (Rest Elem) WalkWhy
unchanged_rest w now walks = rest_if_unchanged w.made now (own_rest w walks)

-- the walks with this at the walk's place, and with the place free
abbrev pub with_rest : Walk → Rest Elem → Pool (Rest Elem) → Pool (Rest Elem)
with_rest w rest walks = record {
  places = with_owner w.owner.place w.owner.number rest walks.places;
  takings = walks.takings;
}

abbrev pub without_rest : Walk → Pool (Rest Elem) → Pool (Rest Elem)
without_rest w walks = record {
  places = without_owner w.owner.place walks.places;
  takings = walks.takings;
}

-- ---- the calls

-- a walk starts at the lowest free place, where one is free
abbrev pub walk_of : ℕ → Taking (Rest Elem) → Walk
walk_of made t = record { owner = record { number = t.number; place = t.place }; made = made }

abbrev pub started : ℕ → Option (Taking (Rest Elem)) → Pool (Rest Elem) → Called Walk
started made None walks = calls (Err refusals.PoolFull) walks
started made (Some t) walks = calls (Ok (walk_of made t)) t.pool

abbrev pub start_called : Rest Elem → ℕ → Pool (Rest Elem) → Called Walk
start_called rest made walks = started made (take_place rest walks) walks

-- the element that the walk comes to, at the end none
abbrev pub moved_on : Walk → Result (Rest Elem) WalkWhy → Pool (Rest Elem) → Called (Option Elem)
moved_on w (Ok rest) walks = calls (Ok (next rest).current) (with_rest w (next rest) walks)
moved_on w (Err why) walks = calls (Err (walk_refusal why)) walks

abbrev pub next_called : Walk → ℕ → Pool (Rest Elem) → Called (Option Elem)
next_called w now walks = moved_on w (unchanged_rest w now walks) walks

-- the element that it stands at
abbrev pub shown : Result Elem WalkWhy → Pool (Rest Elem) → Called Elem
shown (Ok element) walks = calls (Ok element) walks
shown (Err why) walks = calls (Err (walk_refusal why)) walks

abbrev pub current_called : Walk → Pool (Rest Elem) → Called Elem
current_called w walks = shown (current_of (own_rest w walks)) walks

-- it stands before the first element again
abbrev pub moved_back : Walk → Result (Rest Elem) WalkWhy → Pool (Rest Elem) → Called (Unit {0})
moved_back w (Ok rest) walks = calls (Ok tt) (with_rest w (reset rest) walks)
moved_back w (Err why) walks = calls (Err (walk_refusal why)) walks

abbrev pub reset_called : Walk → ℕ → Pool (Rest Elem) → Called (Unit {0})
reset_called w now walks = moved_back w (unchanged_rest w now walks) walks

-- its place is free
abbrev pub disposed : Walk → Option (Rest Elem) → Pool (Rest Elem) → Called (Unit {0})
disposed w (Some rest) walks = calls (Ok tt) (without_rest w walks)
disposed w None walks = calls (Err refusals.Disposed) walks

abbrev pub dispose_called : Walk → Pool (Rest Elem) → Called (Unit {0})
dispose_called w walks = disposed w (own_rest w walks) walks
