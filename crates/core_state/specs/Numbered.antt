-- How batches, versions and statements get their numbers, as the parts of a core give them.
pub use Rattle.core_parts.specs.Numbered.{counted, last_after, last_number, least_unused, next_number}
