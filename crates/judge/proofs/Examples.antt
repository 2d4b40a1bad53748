-- The worked values, computed. Assumes nothing.
use Rattle.std.proofs.Common.{refl}
use Rattle.logic.specs.Syntax.{variable, apply1, conjunction, disjunction, implication, every, some, pred2, negation, binary, quantified}
use Rattle.judge.specs.Examples.{Examples}

pub examples : Examples
examples = record {
  endless = (quantified every 0 (quantified some 1 (pred2 0 (variable 0) (variable 1))), refl, refl);
  onward = (
    quantified every 0 (binary disjunction (pred2 0 (variable 0) (apply1 0 (variable 0))) (negation (quantified some 1 (pred2 0 (variable 0) (variable 1))))),
    refl,
    refl,
  );
  transitive = (
    binary implication (binary conjunction (pred2 0 (variable 1) (variable 4)) (pred2 0 (variable 4) (variable 2))) (pred2 0 (variable 1) (variable 2)),
    refl,
    refl,
  );
}
