use Rattle.logic.specs.Text.{most_parts, most_levels}
use Rattle.logic.specs.Reading.{read_formula}
use Rattle.formula.specs.View.{formula}
use Rattle.fault.specs.declared.fault.Source.{Source}
use Rattle.reader.proofs.Told.{formula_told}
use Rattle.reader.proofs.Whole.{told_whole}
use Rattle.reader.proofs.read_formula.Goals as goal

pub returns : goal.returns
returns c =
    let n = c.new-reader.ensures in
    let all = told_whole formula (read_formula most_parts most_levels) c.args.bytes.now Source.Formula _ _ _ _ n.0 n.1 n.2 n.3 c.formula-taken.ensures c.alone.ensures in
    formula_told c.args.bytes.now _ all
