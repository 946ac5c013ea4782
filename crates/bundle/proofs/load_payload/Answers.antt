-- `load_payload` meets its contract. Assumes nothing.
use mathlib.Core.Path.{◌∙◌}
use Rattle.bundle.proofs.Fields.{payload-part-loaded, payload-not-loaded}
use Rattle.bundle.proofs.load_payload.Goals as goal

pub returns-then-bundle-ne-SIZE : goal.returns-then-bundle-ne-SIZE
returns-then-bundle-ne-SIZE c = payload-not-loaded _ c.if-bundle-ne-SIZE.true

pub returns : goal.returns
returns c = c.load.ensures ∙ payload-part-loaded _ c.if-bundle-ne-SIZE.false
