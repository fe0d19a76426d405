use Rattle.std.proofs.Common.{rules}
use Rattle.jp_pred.proofs.Sizes.{product_low, product_high}
use Rattle.jp_pred.proofs.truth.product.Goals as goal

pub returns-clause-value : goal.returns-clause-value
returns-clause-value c = search rules

pub returns-clause-low : goal.returns-clause-low
returns-clause-low c = product_low _ c.args.coefficient c.args.value (returns-clause-value c) c.ranges.coefficient c.ranges.value

pub returns-clause-high : goal.returns-clause-high
returns-clause-high c = product_high _ c.args.coefficient c.args.value (returns-clause-value c) c.ranges.coefficient c.ranges.value
