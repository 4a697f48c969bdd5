-- Versions of different filters, as the crate of the filters says it.
pub use Rattle.filter_order.specs.Spares.{AreApart}
