-- What a worker's logs are after its calls.
use Rattle.std.proofs.Common.{◌≡◌, ℕ, ◌+◌, ◌*◌, ◌<◌, ◌≤◌, Bool, true, false, MatchBool, List, [], ◌∷◌, ◌++◌, length, None, Some, refl, ap, sym, subst, ◌∙◌, arith, append_assoc}
use Rattle.std.specs.Prelude.{Option, IfSome, is_some, map, if◌then◌else◌}
use Rattle.std.specs.List.{AllByRecursion}
use Rattle.std.proofs.lemmas.List.{append-nil, length-append}
use lib.ListN.{get_elem?}
use Rattle.imm_base.specs.declared.val.Val.{Val}
use Rattle.plain_model.specs.declared.commands.Probe.{Probe}
use Rattle.plain_model.specs.declared.commands.Probe.TheVariants.{Idle, Ran}
use Rattle.plain_model.specs.declared.plain.Plain.{Plain}
use Rattle.plain_model.specs.declared.history.Line.{Line}
use Rattle.plain_model.specs.History.{probe_of}
use Rattle.atomic_table.proofs.Lists.{at_longer}
use Rattle.version_slots.specs.Histories.{StartsWith}
use Rattle.version_slots.specs.declared.view.Line.{Line as Version}
use Rattle.version_slots.proofs.Seats.{further}
use Rattle.interlocked.specs.declared.entry.Kept.{Kept}
use Rattle.interlocked.specs.Entries.{entry, added}
use Rattle.interlocked.specs.Known.{Known, IsLater}
use Rattle.interlocked.specs.Rights.{IsInstalled, IsAnswered, Shows}
use Rattle.interlocked.proofs.Rights.{answered_later, installed_later}
use Rattle.history_merge.specs.Lines.{installed_of, is_below, place_of}
use Rattle.history_merge.specs.Logs.{entry_of}
use Rattle.history_merge.proofs.Order.{lex_tied}
use Rattle.seats.specs.Seats.{HasProbed, IsLineOf}
use Rattle.seats.specs.Logs.{BearsOut, IsLogged, LooksFrom, StandsIn}

-- ---- what stays as the history grows

right_later : (hist seen : List (Version Kept)) → StartsWith hist seen → (l : Line) (b : Bool)
    → MatchBool b (IsInstalled seen l.caller l.ordinal l.call l.reply l.position) (IsAnswered seen l.call l.reply l.position)
    → MatchBool b (IsInstalled hist l.caller l.ordinal l.call l.reply l.position) (IsAnswered hist l.call l.reply l.position)
right_later hist seen begins l true h = installed_later hist seen begins l.caller l.ordinal l.call l.reply l.position h
right_later hist seen begins l false h = answered_later hist seen begins l.call l.reply l.position h

-- a line that stands right in a history stands right in a longer one
pub stands_later : (hist seen : List (Version Kept)) → StartsWith hist seen → (l : Line) → StandsIn seen l → StandsIn hist l
stands_later hist seen begins l h = right_later hist seen begins l l.installed h

-- so does a value that was read
pub shows_later : (hist seen : List (Version Kept)) → StartsWith hist seen → (position : ℕ) (p : Plain) → Shows seen position p → Shows hist position p
shows_later hist seen begins position p h = record {
  line = h.line;
  at = ap (λ (l : List (Version Kept)). get_elem? l position) begins.1 ∙ at_longer seen begins.0 position h.line h.at;
  value = h.value;
}

pub read_later : (hist seen : List (Version Kept)) → StartsWith hist seen → (position : ℕ) (read : Option Plain) → IfSome read (Shows seen position) → IfSome read (Shows hist position)
read_later hist seen begins position None h = tt
read_later hist seen begins position (Some p) h = shows_later hist seen begins position p h

-- ---- places of lines

-- the line is before all versions from this one on
place_before : (l : Line) (n : ℕ) → l.position < n → place_of l + 1 ≤ 2 * n
place_before l n lt = split l.installed
  where
    split : (b : Bool) → 2 * l.position + (if b then 0 else 1) + 1 ≤ 2 * n
    split true = omega arith
    split false = omega arith

-- the line is behind so many versions
place_behind : (l : Line) (n position : ℕ) (installed : Bool) → position ≡ l.position → installed ≡ l.installed
    → MatchBool installed (n ≤ position) (n ≤ position + 1) → 2 * n ≤ place_of l + 1
place_behind l n position true at is h = subst (λ (b : Bool). 2 * n ≤ 2 * l.position + (if b then 0 else 1) + 1) is (omega arith)
place_behind l n position false at is h = subst (λ (b : Bool). 2 * n ≤ 2 * l.position + (if b then 0 else 1) + 1) is (omega arith)

-- ---- a line in front of others

later_self : (p : Known) → IsLater p p
later_self p = record { table = refl; number = refl; seen = ([], sym (append-nil p.view.seen)); kind = refl }

pub log_begins : (p : Known) → IsLogged p p []
log_begins p = record {
  later = later_self p;
  by = tt;
  right = tt;
  mine = sym (append-nil (added p.view.mine));
  behind = tt;
  rising = tt;
  ordinals = tt;
  probed = tt;
  looks = λ k lt. tt;
}

-- the entries of the line's own call
own : (p q : Known) (l : Line) (installed : Bool) → installed ≡ l.installed → l.caller ≡ p.view.number
    → MatchBool installed (added q.view.mine ≡ added p.view.mine ++ entry p.view.number l.ordinal l.call ∷ []) (q.view.mine ≡ p.view.mine)
    → added q.view.mine ≡ added p.view.mine ++ (if l.installed then entry_of l ∷ [] else [])
own p q l true is by h = h ∙ (ap (λ k. added p.view.mine ++ entry k l.ordinal l.call ∷ []) (sym by) ∙ ap (λ b. added p.view.mine ++ (if b then entry_of l ∷ [] else [])) is)
own p q l false is by h = ap added h ∙ (sym (append-nil (added p.view.mine)) ∙ ap (λ b. added p.view.mine ++ (if b then entry_of l ∷ [] else [])) is)

-- one call, and then others with higher ordinals
module _ (p q r : Known) (l : Line) (read : Option Plain) (log : List Line) (n : IsLineOf p q l read) (h : IsLogged q r log) (above : AllByRecursion (λ m. l.ordinal < m.ordinal) log) where
  here : StandsIn q.view.seen l
  here = right l.caller n.caller n.stamp.position l.position n.position n.stamp.installed l.installed n.installed n.made.stands
    where
      right : (w : ℕ) → w ≡ p.view.number → (i j : ℕ) → i ≡ j → (b c : Bool) → b ≡ c
          → MatchBool b (IsInstalled q.view.seen p.view.number l.ordinal l.call l.reply i) (IsAnswered q.view.seen l.call l.reply i)
          → MatchBool c (IsInstalled q.view.seen w l.ordinal l.call l.reply j) (IsAnswered q.view.seen l.call l.reply j)
      right w by i j at b c is k = subst (λ (t : ℕ × ℕ × Bool). MatchBool t.2 (IsInstalled q.view.seen t.0 l.ordinal l.call l.reply t.1) (IsAnswered q.view.seen l.call l.reply t.1)) (λ x. (sym by x, at x, is x)) k

  seen_grows : length p.view.seen ≤ length q.view.seen
  seen_grows = let e = ap length n.later.seen.1 ∙ length-append p.view.seen n.later.seen.0 in omega arith

  all_behind : (ms : List Line) → AllByRecursion (λ m. 2 * length q.view.seen ≤ place_of m + 1) ms → AllByRecursion (λ m. 2 * length p.view.seen ≤ place_of m + 1) ms
  all_behind [] all = tt
  all_behind (m ∷ ms) all = (let e = all.0 in let f = seen_grows in omega arith, all_behind ms all.1)

  low : place_of l + 1 ≤ 2 * length q.view.seen
  low = place_before l (length q.view.seen) (let e = n.made.within in let f = n.position in omega arith)

  all_below : (ms : List Line) → AllByRecursion (λ m. 2 * length q.view.seen ≤ place_of m + 1) ms → AllByRecursion (λ m. m.caller ≡ q.view.number) ms → AllByRecursion (λ m. l.ordinal < m.ordinal) ms
      → AllByRecursion (λ m. is_below l m ≡ true) ms
  all_below [] behind by up = tt
  all_below (m ∷ ms) behind by up = (
    lex_tied (place_of l) l.caller l.ordinal (place_of m) m.caller m.ordinal (let e = low in let f = behind.0 in omega arith) (n.caller ∙ (sym n.later.number ∙ sym by.0)) up.0,
    all_below ms behind.1 by.1 up.1,
  )

  -- what the call told of its factory is borne out by all that is seen later
  borne_out : (o : Option (Val × Probe)) → HasProbed p l.reply q n.stamp o → BearsOut r.view.seen l o
  borne_out None h' = tt
  borne_out (Some (key, Idle)) h' = record {
    got = h'.got;
    shown = subst (λ i. Shows r.view.seen i h'.got) n.position (shows_later r.view.seen q.view.seen h.later.seen n.stamp.position h'.got h'.there);
    found = ap is_some h'.present;
  }
  borne_out (Some (key, Ran position)) h' = (
    record { got = h'.got; shown = shows_later r.view.seen q.view.seen h.later.seen position h'.got h'.there; found = ap is_some h'.absent },
    subst (λ (t : Bool × ℕ). MatchBool t.0 (position < t.1) (position ≤ t.1)) (λ i. (n.installed i, n.position i)) h'.before,
  )

  -- its look was behind all that had been seen
  looks_from : (k : ℕ) → k < length p.view.seen → (o : Option (Val × Probe)) → HasProbed p l.reply q n.stamp o → LooksFrom k o
  looks_from k lt None h' = tt
  looks_from k lt (Some (key, Idle)) h' = tt
  looks_from k lt (Some (key, Ran position)) h' = let e = h'.behind in omega arith

  pub log_front : IsLogged p r (l ∷ log)
  log_front = record {
    later = record {
      table = h.later.table ∙ n.later.table;
      number = h.later.number ∙ n.later.number;
      seen = further r.view.seen q.view.seen p.view.seen h.later.seen n.later.seen;
      kind = h.later.kind ∙ n.later.kind;
    };
    by = (n.caller, subst (λ k. AllByRecursion (λ m. m.caller ≡ k) log) n.later.number h.by);
    right = (stands_later r.view.seen q.view.seen h.later.seen l here, h.right);
    mine = h.mine ∙ (ap (λ es. es ++ map entry_of (installed_of log)) (own p q l n.stamp.installed n.installed n.caller n.made.mine) ∙ more l.installed);
    behind = (place_behind l (length p.view.seen) n.stamp.position n.stamp.installed n.position n.installed n.made.behind, all_behind log h.behind);
    rising = (all_below log h.behind h.by above, h.rising);
    ordinals = (above, h.ordinals);
    probed = (borne_out (probe_of l.call) n.probe, h.probed);
    looks = λ k lt. (looks_from k lt (probe_of l.call) n.probe, h.looks l.position (let e = n.made.within in let f = n.position in omega arith));
  }
    where
      more : (b : Bool) → (added p.view.mine ++ (if b then entry_of l ∷ [] else [])) ++ map entry_of (installed_of log) ≡ added p.view.mine ++ map entry_of (if b then l ∷ installed_of log else installed_of log)
      more true = append_assoc (added p.view.mine) (entry_of l ∷ []) (map entry_of (installed_of log))
      more false = append_assoc (added p.view.mine) [] (map entry_of (installed_of log))
