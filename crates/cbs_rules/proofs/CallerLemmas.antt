-- What a caller shows of a product of 128 bits.
pub use Rattle.cbs_rules.proofs.Widened.{again, natural_fits, natural_again, product_is}
