-- Breakpoints and watches, as they are answered.
use Rattle.std.specs.Prelude.{ℕ, true, false, List, codes}
use Rattle.serde_json.specs.Data.{Data, Items, array, boolean, item, member, no_items, no_members, null, number, object, string, unsigned}
use Rattle.tb_dap_values.specs.declared.stops.TheConstants.{NO_VARIABLE}

-- a breakpoint that is set at a line of a file
abbrev pub verified_value : ℕ → ℕ → Data → Data
verified_value id line source =
    object (member (codes "id") (number (unsigned id)) (member (codes "line") (number (unsigned line)) (member (codes "source") source
    (member (codes "verified") (boolean true) no_members))))

-- a breakpoint that is not set, and why
abbrev pub unverified_value : List ℕ → Data
unverified_value why =
    object (member (codes "message") (string why) (member (codes "verified") (boolean false) no_members))

-- a watch that is set
abbrev pub watched_value : Data
watched_value =
    object (member (codes "verified") (boolean true) no_members)

-- breakpoints, in the order in which they were asked for
abbrev pub breakpoints_body : Items → Data
breakpoints_body values =
    object (member (codes "breakpoints") (array values) no_members)

-- that a variable can be watched
abbrev pub watchable_body : List ℕ → Data
watchable_body name =
    object (member (codes "accessTypes") (array (item (string (codes "write")) no_items)) (member (codes "canPersist") (boolean true)
    (member (codes "dataId") (string name) (member (codes "description") (string name) no_members))))

-- that something can't be watched
abbrev pub unwatchable_body : Data
unwatchable_body =
    object (member (codes "dataId") null (member (codes "description") (string NO_VARIABLE.now) no_members))
