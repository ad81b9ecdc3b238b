-- The options of a neighbour or a group, each kind for itself.
use Rattle.std.specs.Prelude.{List, Option, None, filter_map}
use Rattle.std.specs.Option.{option_or}
use Rattle.std.specs.List.{last_or}
use Rattle.conf_tree.specs.declared.draft.NeighbourOption.{NeighbourOption}
use Rattle.conf_tree.specs.declared.draft.OptionLine.{OptionLine}
use Rattle.conf_tree.specs.Said.{last_option, remote_as_of, local_address_of, description_of, port_of, passive_of, down_of, multihop_of, hold_option_of, hold_min_option_of, announce_v4_of, announce_v6_of, announce_refresh_of, announce_as_4byte_of, max_prefix_of, rib_option_of, set_option_of}
use Rattle.conf_check.specs.declared.options.Plain.{Plain}
use Rattle.conf_check.specs.declared.options.Settings.{Settings}

-- the last option of a kind, or else one from before
abbrev pub last_behind : {A : Type 0} → (NeighbourOption → Option A) → Option A → List OptionLine → Option A
last_behind what before options = last_or before (filter_map (λ o. what o.option) options)

-- what more options leave of those before them
abbrev pub plain_behind : Plain → List OptionLine → Plain
plain_behind before options = record {
  remote_as = last_behind remote_as_of before.remote_as options;
  local_address = last_behind local_address_of before.local_address options;
  port = last_behind port_of before.port options;
  passive = last_behind passive_of before.passive options;
  down = last_behind down_of before.down options;
  multihop = last_behind multihop_of before.multihop options;
  hold = last_behind hold_option_of before.hold options;
  hold_min = last_behind hold_min_option_of before.hold_min options;
  announce_v4 = last_behind announce_v4_of before.announce_v4 options;
  announce_v6 = last_behind announce_v6_of before.announce_v6 options;
  announce_refresh = last_behind announce_refresh_of before.announce_refresh options;
  announce_as_4byte = last_behind announce_as_4byte_of before.announce_as_4byte options;
  max_prefix = last_behind max_prefix_of before.max_prefix options;
}

abbrev pub no_plain : Plain
no_plain = record {
  remote_as = None;
  local_address = None;
  port = None;
  passive = None;
  down = None;
  multihop = None;
  hold = None;
  hold_min = None;
  announce_v4 = None;
  announce_v6 = None;
  announce_refresh = None;
  announce_as_4byte = None;
  max_prefix = None;
}

abbrev pub plain_of : List OptionLine → Plain
plain_of options = plain_behind no_plain options

-- the one's options, and where it has none the other's
abbrev pub plain_or : Plain → Plain → Plain
plain_or own shared = record {
  remote_as = option_or own.remote_as shared.remote_as;
  local_address = option_or own.local_address shared.local_address;
  port = option_or own.port shared.port;
  passive = option_or own.passive shared.passive;
  down = option_or own.down shared.down;
  multihop = option_or own.multihop shared.multihop;
  hold = option_or own.hold shared.hold;
  hold_min = option_or own.hold_min shared.hold_min;
  announce_v4 = option_or own.announce_v4 shared.announce_v4;
  announce_v6 = option_or own.announce_v6 shared.announce_v6;
  announce_refresh = option_or own.announce_refresh shared.announce_refresh;
  announce_as_4byte = option_or own.announce_as_4byte shared.announce_as_4byte;
  max_prefix = option_or own.max_prefix shared.max_prefix;
}

abbrev pub no_settings : Settings
no_settings = record { plain = no_plain; description = None; rib = None; set = None }

abbrev pub settings_of : List OptionLine → Settings
settings_of options = record {
  plain = plain_of options;
  description = last_option description_of options;
  rib = last_option rib_option_of options;
  set = last_option set_option_of options;
}

abbrev pub settings_or : Settings → Settings → Settings
settings_or own shared = record {
  plain = plain_or own.plain shared.plain;
  description = option_or own.description shared.description;
  rib = option_or own.rib shared.rib;
  set = option_or own.set shared.set;
}
