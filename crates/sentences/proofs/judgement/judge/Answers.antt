use Rattle.sentences.proofs.Lines.{judged}
use Rattle.sentences.proofs.judgement.judge.Goals as goal

pub returns-in_default : goal.returns-in_default
returns-in_default c =
    let r = c.in-Err.ensures in
    judged c.args.sentence.now c.in-Err.fault c.in_default.not-Memory r.told r.exact r.means
