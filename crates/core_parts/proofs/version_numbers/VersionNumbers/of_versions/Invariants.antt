use Rattle.std.proofs.Common.{◌≡◌, ◌++◌, drop, length, map}
use Rattle.core_parts.proofs.version_numbers.VersionNumbers.of_versions.Given as goal

-- the numbers so far, and those of the versions still to come, are all
abbrev pub invariant-places : goal.invariant-places
invariant-places l = record {
  long : length l.numbers ≡ l.place;
  all : l.numbers ++ map (λ version. version.number) (drop l.place l.versions)
      ≡ map (λ version. version.number) l.versions;
}
