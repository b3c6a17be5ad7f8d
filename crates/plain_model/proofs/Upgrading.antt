-- A report of a script is one of the upgraded script: what is lawful stands on the cells and the parts alone.
use Rattle.std.specs.Prelude.{ℕ, ◌↔◌}
use Rattle.plain_model.specs.declared.report.Script.{Script}
use Rattle.plain_model.specs.declared.report.Report.{Report}
use Rattle.plain_model.specs.Lawful.{Lawful, upgrade, UpgradeKeepsReports}

up : (s : Script) (n : ℕ) (r : Report) → Lawful s n r → Lawful (upgrade s) n r
up s n r l = record { workers = l.workers; cells = l.cells; runs = l.runs; one_list_per_worker = l.one_list_per_worker; works = l.works }

down : (s : Script) (n : ℕ) (r : Report) → Lawful (upgrade s) n r → Lawful s n r
down s n r l = record { workers = l.workers; cells = l.cells; runs = l.runs; one_list_per_worker = l.one_list_per_worker; works = l.works }

pub upgrade_keeps : UpgradeKeepsReports
upgrade_keeps s n r = (up s n r, down s n r)
