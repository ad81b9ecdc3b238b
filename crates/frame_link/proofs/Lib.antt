mod Carried
