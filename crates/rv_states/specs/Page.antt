-- What stands around the lines: nothing, or a page for a browser.
use Rattle.std.specs.Prelude.{ℕ, List, []}
use Rattle.rv_states.specs.declared.form.Form.{Form}
use Rattle.rv_states.specs.declared.form.Form.TheVariants.{Lines, Page}
use Rattle.rv_states.specs.declared.viewer.TheConstants.{AFTER, BEFORE}

-- before them a page has the viewer, up to the place for them
unfoldable pub before_lines : Form → List ℕ
before_lines Lines = []
before_lines Page = BEFORE.now

-- after them it has the rest of the viewer
unfoldable pub after_lines : Form → List ℕ
after_lines Lines = []
after_lines Page = AFTER.now
