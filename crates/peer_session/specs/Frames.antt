-- The frames that an UPDATE gives.
use Rattle.std.specs.Prelude.{ℕ, Bool, true, false, List, [], ◌∷◌, ◌++◌, filter, filter_map, Option, Some, None}
use Rattle.net_base.specs.declared.addr.Family.{Family}
use Rattle.net_base.specs.declared.addr.Family.TheVariants.{V4, V6}
use Rattle.net_base.specs.declared.prefix.Prefix.{Prefix}
use Rattle.attr_model.specs.declared.attrs.Attrs.{Attrs}
use Rattle.update_codec.specs.declared.update.Update.{Update}
use Rattle.core_msgs.specs.declared.frame.Frame.{Frame}
use Rattle.core_msgs.specs.declared.frame.Frame.TheVariants.{Routes, Up}
use Rattle.core_msgs.specs.declared.parts.Core.{Core}
use Rattle.core_msgs.specs.declared.parts.Core.TheVariants.{Decision}

abbrev pub is_family : Family → Family → Bool
is_family V4 V4 = true
is_family V6 V6 = true
is_family _ _ = false

abbrev pub prefixes_in : Family → List Prefix → List Prefix
prefixes_in family prefixes = filter (λ p. is_family p.family family) prefixes

-- a group is of the family of its hop
abbrev pub groups_in : Family → List (Attrs × List Prefix) → List (Attrs × List Prefix)
groups_in family groups = filter (λ g. is_family g.0.hop.family family) groups

abbrev pub routes_frame : ℕ → Family → List Prefix → Option (Attrs × List Prefix) → Core × Frame
routes_frame session family withdrawn announced = (Decision, Routes session family withdrawn announced)

-- a frame for each group, the withdrawn prefixes in the first
abbrev pub group_frames : ℕ → Family → List Prefix → List (Attrs × List Prefix) → List (Core × Frame)
group_frames session family withdrawn [] = []
group_frames session family withdrawn (group ∷ groups) =
    routes_frame session family withdrawn (Some group) ∷ group_frames session family [] groups

-- a frame for withdrawn prefixes, where there are some
abbrev pub withdrawn_frames : ℕ → Family → List Prefix → List (Core × Frame)
withdrawn_frames session family [] = []
withdrawn_frames session family (first ∷ others) = routes_frame session family (first ∷ others) None ∷ []

-- The frames of one family: one for each group, or one for what is only withdrawn.
abbrev pub family_frames : ℕ → Family → List Prefix → List (Attrs × List Prefix) → List (Core × Frame)
family_frames session family withdrawn [] = withdrawn_frames session family withdrawn
family_frames session family withdrawn (group ∷ groups) = group_frames session family withdrawn (group ∷ groups)

-- IPv4 goes before IPv6.
unfoldable pub update_frames : ℕ → Update → List (Core × Frame)
update_frames session update =
    family_frames session V4 (prefixes_in V4 update.withdrawn) (groups_in V4 update.announced)
    ++ family_frames session V6 (prefixes_in V6 update.withdrawn) (groups_in V6 update.announced)

-- the number of the session that comes up, where one does
abbrev pub number_up : Frame → Option ℕ
number_up (Up session peer asn id agreed) = Some session
number_up frame = None

-- the numbers of the sessions that come up, in their order
abbrev pub ups : List (Core × Frame) → List ℕ
ups sent = filter_map (λ s. number_up s.1) sent
