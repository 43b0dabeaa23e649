-- Tests over the numbers below a bound stand in the crate `base`; these names remain for the crates that still read them here.
pub use Rattle.base.proofs.Tests.{or_true, and_false, all_true, all_false, any_false, all_equal, Each, each_begin, each_next, each_all, each_none, few_all}
