-- No text is the text of two trees. Assumes nothing.
use Rattle.std.specs.Prelude.{◌≡◌, ◌≢◌}
use Rattle.logic.specs.Syntax.{Term, Formula}
use Rattle.logic.specs.Text.{term_text, text, TermNamed, Named}

pub record OneMeaning : Type 0 where
  pub of_formulas : (a b : Formula) → Named a → Named b → text a ≡ text b → a ≡ b
  pub of_terms : (s t : Term) → TermNamed s → TermNamed t → term_text s ≡ term_text t → s ≡ t
  pub of_both : (a : Formula) (t : Term) → text a ≢ term_text t
