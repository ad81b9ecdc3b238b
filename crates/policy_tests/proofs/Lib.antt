mod EmptySet
