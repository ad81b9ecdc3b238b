-- The routes that UPDATEs leave (RFC 4271 section 3.2): by prefix, those whose last word is an announcement.
use Rattle.std.specs.Prelude.{ℕ, ◌==◌, if◌then◌else◌, List, [], ◌∷◌, ◌++◌, fold, map, flat_map, Option, Some, None, Result, Ok, Err}
use Rattle.std.specs.BTreeMap.{is_at}
use Rattle.net_base.specs.declared.prefix.Prefix.{Prefix}
use Rattle.net_base.specs.Order.{prefix_cmp}
use Rattle.bgp_wire.specs.declared.open.Encoding.{Encoding}
use Rattle.bgp_wire.specs.Message.{Message, messages}
use Rattle.attr_model.specs.declared.attrs.Attrs.{Attrs}
use Rattle.attr_model.specs.Routes.{RouteTable, without_route, with_route}
use Rattle.update_codec.specs.declared.update.Update.{Update}
use Rattle.update_codec.specs.Update.{update_says}

-- A group puts its attributes on each of its prefixes.
abbrev pub with_group : RouteTable → Attrs × List Prefix → RouteTable
with_group routes group = fold (with_route group.0) routes group.1

-- An UPDATE withdraws prefixes, and then announces others.
abbrev pub with_update : RouteTable → Update → RouteTable
with_update routes update = fold with_group (fold without_route routes update.withdrawn) update.announced

abbrev pub held : List Update → RouteTable
held updates = fold with_update [] updates

-- The words of an UPDATE, one after the other: a prefix with the attributes that it is announced with, or without where it is
-- withdrawn.
abbrev pub withdrawal_of : Prefix → Prefix × Option Attrs
withdrawal_of prefix = (prefix, None)

abbrev pub announcements_of : Attrs × List Prefix → List (Prefix × Option Attrs)
announcements_of group = map (λ prefix. (prefix, Some group.0)) group.1

abbrev pub words_of : Update → List (Prefix × Option Attrs)
words_of update = map withdrawal_of update.withdrawn ++ flat_map announcements_of update.announced

-- The attributes that the last word on a prefix announces.
abbrev pub with_word : Prefix → Option Attrs → Prefix × Option Attrs → Option Attrs
with_word prefix said word = if is_at (prefix_cmp prefix) word.0 then word.1 else said

abbrev pub last_word : Prefix → List (Prefix × Option Attrs) → Option Attrs
last_word prefix words = fold (with_word prefix) None words

-- The UPDATE that a message is, where it is one without a NOTIFICATION.
abbrev pub read_ones : Result Update ℕ → List Update
read_ones (Ok update) = update ∷ []
read_ones (Err sub) = []

unfoldable pub updates_in : Encoding → Message → List Update
updates_in enc message = if message.kind == 2 then read_ones (update_says enc message.body) else []

-- What the bytes of a connection tell: what the UPDATEs of its messages leave.
abbrev pub told_from : Encoding → RouteTable → List Message → RouteTable
told_from enc routes whole = fold with_update routes (flat_map (updates_in enc) whole)

unfoldable pub told : Encoding → List ℕ → RouteTable
told enc bytes = told_from enc [] (messages bytes).whole
