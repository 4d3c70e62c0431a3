-- What a caller shows of many ticks, one after another.
pub use Rattle.jump_run.proofs.Ticks.{ticks_more, logged_more}
