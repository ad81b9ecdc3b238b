-- The derived orders, as the functions of this crate name them.
pub use Rattle.conf_tree.proofs.Orders.{derived_roa_cmp, derived_range_cmp, derived_prefix_order, derived_addr_order, number_same, addr_same}
