-- How batches, versions and statements get their numbers, as the crate of the filters says it.
pub use Rattle.filter_order.specs.Numbered.{counted, last_after, last_number, least_unused, next_number}
