-- What a scan has in a slot, by what the core says that runs there.
use Rattle.core_state.proofs.Words.{◌∙◌, ◌≡◌, ap, false, is_some, is_visible, Life, None, OnRoster, Option, option_and_then, option_map_or, passes, plain_version, Query, query_of, refl, Running, RunsAs, Some, start_in, takes_version, true, Version}
use Rattle.std.specs.Prelude.{◌&&◌}
use Rattle.continuous_scan.specs.Stamped as stamped

-- what stands on a roster of a query that is found, where it runs
abbrev pub run_in : (now : Option Life) → (found : Option OnRoster) → Option OnRoster
run_in now found = option_and_then (λ start. found) (option_and_then start_in now)

-- a query runs in a slot of the scan where one runs in that of the core
pub runs-as : (now : Option Life) (entry : Option OnRoster) (running : Option Running) → RunsAs now entry running
    → is_some running ≡ option_map_or (λ e. true) entry false
runs-as now None None same = refl
runs-as now None (Some r) same = absurd same
runs-as now (Some e) None same = absurd same
runs-as now (Some e) (Some r) same = refl

-- and it takes a version where the other takes it
pub takes-as : (version : Version) (now : Option Life) (entry : Option OnRoster) (running : Option Running) → RunsAs now entry running
    → stamped.takes_version version running ≡ option_map_or (takes_version (plain_version version)) entry false
takes-as version now None None same = refl
takes-as version now None (Some r) same = absurd same
takes-as version now (Some e) None same = absurd same
takes-as version now (Some e) (Some r) same =
    ap (λ snapshot. is_visible version.begin version.end snapshot && passes (query_of r.query).fact version.row) same.snapshot
    ∙ ap (λ (query : Query). is_visible version.begin version.end e.snapshot && passes query.fact version.row) same.query
