mod Lettering
