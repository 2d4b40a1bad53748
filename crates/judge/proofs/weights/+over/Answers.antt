use Rattle.std.proofs.Common.{◌≡◌, ◌-◌, ◌<◌, suc, ◌∙◌, length, sym, refl, arith, get_or-set_same, length-set, drop-set-lt}
use Rattle.std.proofs.lemmas.List.{get_or_read}
use Rattle.logic.specs.Assignment.{listed}
use Rattle.formula.specs.View.{formula}
use Rattle.judge.specs.declared.join.Join.TheVariants.{And}
use Rattle.judge.proofs.Joins.{quantify_more, quantify_settled}
use Rattle.judge.proofs.Cells.{kept_from, cell_kept}
use Rattle.judge.proofs.Loops.{weight_below_loop, weight_below_vacuous}
use Rattle.judge.proofs.weights.+over.Goals as goal

pub returns-then-not-contains-clause-value : goal.returns-then-not-contains-clause-value
returns-then-not-contains-clause-value g t c =
    let m = g.R.Run.meaning c.args.run.now in
    let a = formula c.args.body.now.f.now in
    let ρ = listed c.args.at.elements in
    let next : suc (c.args.below - 1) ≡ c.args.below = omega arith in
    weight_below_vacuous g.R.Scale.Answers.algebra m a ρ g.met.R.Scale.Answers.judgeable next
    (sym (c.args.body.now.marks _ (omega (arith, c.requires.few))) ∙ sym c.if-not-contains.ensures)
    c.over.ensures.value

pub returns-then-not-contains-clause-rest : goal.returns-then-not-contains-clause-rest
returns-then-not-contains-clause-rest g t c = kept_from (c.args.below - 1) c.args.below _ _ (omega arith) c.over.ensures.rest

pub returns-then-is_settled-clause-value : goal.returns-then-is_settled-clause-value
returns-then-is_settled-clause-value g t c =
    let m = g.R.Run.meaning c.args.run.now in
    let a = formula c.args.body.now.f.now in
    let ρ = listed c.args.at.elements in
    let n = c.args.below - 1 in
    let next : suc n ≡ c.args.below = omega arith in
    let within : n < length c.over-here.new.cells = omega (arith, c.requires.few, c.requires.room, c.loop-e.auto.cells, length-set c.args.cells.now n c.empty.result, c.over-here.auto.cells) in
    weight_below_loop g.R.Scale.Answers.algebra m a ρ next refl
    (quantify_settled g.met.R.Scale.Answers.judgeable And _ c.loop-e.e _ _
    (quantify_more g.R.Scale.Answers.algebra And _ c.loop-e.e
    (cell_kept n c.loop-e.cells c.over-here.new.cells _ c.index-cells-cell.result within c.index-cells-cell.is c.over-here.ensures.rest ∙ c.loop-e.invariant.found)
    (simp c.with.ensures at c.over-here.ensures.value) c.apply-all.ensures)
    (omega (arith, c.size-e-end.ensures))
    (c.if-is_settled.ensures.0 refl))

pub loop-e-preserved : goal.loop-e-preserved
loop-e-preserved g t c =
    let n = c.args.below - 1 in
    let within : n < length c.over-here.new.cells = omega (arith, c.requires.few, c.requires.room, c.loop-e.auto.cells, length-set c.args.cells.now n c.empty.result, c.over-here.auto.cells) in
    record {
      found =
          get_or-set_same c.over-here.new.cells n c.apply-all.result _ within
          ∙ quantify_more g.R.Scale.Answers.algebra And _ c.loop-e.e
          (cell_kept n c.loop-e.cells c.over-here.new.cells _ c.index-cells-cell.result within c.index-cells-cell.is c.over-here.ensures.rest ∙ c.loop-e.invariant.found)
          (simp c.with.ensures at c.over-here.ensures.value) c.apply-all.ensures;
      kept =
          drop-set-lt c.args.below c.over-here.new.cells n c.apply-all.result (omega arith)
          ∙ kept_from n c.args.below _ _ (omega arith) c.over-here.ensures.rest ∙ c.loop-e.invariant.kept;
    }

pub returns-clause-value : goal.returns-clause-value
returns-clause-value g t c =
    let m = g.R.Run.meaning c.args.run.now in
    let a = formula c.args.body.now.f.now in
    let ρ = listed c.args.at.elements in
    let n = c.args.below - 1 in
    let next : suc n ≡ c.args.below = omega arith in
    let within : n < length c.loop-e.cells = omega (arith, c.requires.few, c.requires.room, c.loop-e.auto.cells, length-set c.args.cells.now n c.empty.result) in
    let all : c.loop-e.e ≡ c.size-e-end.result = omega arith in
    weight_below_loop g.R.Scale.Answers.algebra m a ρ next (all ∙ c.size-e-end.ensures)
    (get_or_read c.loop-e.cells n c.index-cells-cell-2.result within c.index-cells-cell-2.is _ ∙ c.loop-e.invariant.found)
